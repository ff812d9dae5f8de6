-- Each small public call is settled, by the same law: sizes, bits and numbers, each answer an equation. Assumes nothing.
use mathlib.Core.Path.{refl}
use Rattle.base.specs.contracts.number as number
use Rattle.base.specs.contracts.smaller as smaller
use Rattle.base.specs.contracts.same_numbers as same_numbers
use Rattle.leb128.specs.contracts.is_padded as is_padded
use Rattle.leb128.specs.contracts.leb128_size as leb128Size
use Rattle.obu.specs.contracts.obu_type as obuType
use Rattle.obu.specs.contracts.obu_has_extension as obuHasExtension
use Rattle.obu.specs.contracts.obu_has_size as obuHasSize
use Rattle.obu.specs.contracts.without_size_bit as without_size_bit
use Rattle.obu.specs.contracts.with_size_bit as withSizeBit
use Rattle.obu.specs.contracts.header_size as header_length
use Rattle.obu.specs.contracts.should_ignore_obu_type as shouldIgnoreObuType
use Rattle.element.specs.contracts.header_z as headerZ
use Rattle.element.specs.contracts.header_y as headerY
use Rattle.element.specs.contracts.header_w as headerW
use Rattle.element.specs.contracts.header_n as headerN
use Rattle.element.specs.contracts.has_field as has_field
use Rattle.settled.specs.Settled.{Settled}
use Rattle.settled.proofs.Law.{meet, settles}

-- ---- the number of a refusal, the smaller of two numbers, numbers of a list compared, the bytes of a size field

pub number_of : Settled number.ended (λ M 𝓤. number.clauses)
number_of = settles number.ended _ _ _ (λ M 𝓤 𝓛 mem run κs a. refl) (λ κs a x y p q. (meet p q, refl))

pub smaller_of : Settled smaller.ended (λ M 𝓤. smaller.clauses)
smaller_of = settles smaller.ended _ _ _ (λ M 𝓤 𝓛 mem run κs a. refl) (λ κs a x y p q. (meet p q, refl))

pub same_numbers_lem : Settled same_numbers.ended (λ M 𝓤. same_numbers.clauses)
same_numbers_lem = settles same_numbers.ended _ _ _ (λ M 𝓤 𝓛 mem run κs a. refl) (λ κs a x y p q. (meet p q, refl))

pub leb128_size_lem : Settled leb128Size.ended (λ M 𝓤. leb128Size.clauses)
leb128_size_lem = settles leb128Size.ended _ _ _ (λ M 𝓤 𝓛 mem run κs a. refl) (λ κs a x y p q. (meet p q, refl))

pub is_padded_lem : Settled is_padded.ended (λ M 𝓤. is_padded.clauses)
is_padded_lem = settles is_padded.ended _ _ _ (λ M 𝓤 𝓛 mem run κs a. refl) (λ κs a x y p q. (meet p q, refl))

-- ---- the header byte of an OBU

pub obu_type_lem : Settled obuType.ended (λ M 𝓤. obuType.clauses)
obu_type_lem = settles obuType.ended _ _ _ (λ M 𝓤 𝓛 mem run κs a. refl) (λ κs a x y p q. (meet p q, refl))

pub obu_has_extension_lem : Settled obuHasExtension.ended (λ M 𝓤. obuHasExtension.clauses)
obu_has_extension_lem = settles obuHasExtension.ended _ _ _ (λ M 𝓤 𝓛 mem run κs a. refl) (λ κs a x y p q. (meet p q, refl))

pub obu_has_size_lem : Settled obuHasSize.ended (λ M 𝓤. obuHasSize.clauses)
obu_has_size_lem = settles obuHasSize.ended _ _ _ (λ M 𝓤 𝓛 mem run κs a. refl) (λ κs a x y p q. (meet p q, refl))

pub without_size_bit_lem : Settled without_size_bit.ended (λ M 𝓤. without_size_bit.clauses)
without_size_bit_lem = settles without_size_bit.ended _ _ _ (λ M 𝓤 𝓛 mem run κs a. refl) (λ κs a x y p q. (meet p q, refl))

pub with_size_bit_lem : Settled withSizeBit.ended (λ M 𝓤. withSizeBit.clauses)
with_size_bit_lem = settles withSizeBit.ended _ _ _ (λ M 𝓤 𝓛 mem run κs a. refl) (λ κs a x y p q. (meet p q, refl))

pub header_length_lem : Settled header_length.ended (λ M 𝓤. header_length.clauses)
header_length_lem = settles header_length.ended _ _ _ (λ M 𝓤 𝓛 mem run κs a. refl) (λ κs a x y p q. (meet p q, refl))

pub should_ignore_obu_type_lem : Settled shouldIgnoreObuType.ended (λ M 𝓤. shouldIgnoreObuType.clauses)
should_ignore_obu_type_lem = settles shouldIgnoreObuType.ended _ _ _ (λ M 𝓤 𝓛 mem run κs a. refl) (λ κs a x y p q. (meet p q, refl))

-- ---- the header byte of a payload

pub header_z_lem : Settled headerZ.ended (λ M 𝓤. headerZ.clauses)
header_z_lem = settles headerZ.ended _ _ _ (λ M 𝓤 𝓛 mem run κs a. refl) (λ κs a x y p q. (meet p q, refl))

pub header_y_lem : Settled headerY.ended (λ M 𝓤. headerY.clauses)
header_y_lem = settles headerY.ended _ _ _ (λ M 𝓤 𝓛 mem run κs a. refl) (λ κs a x y p q. (meet p q, refl))

pub header_w_lem : Settled headerW.ended (λ M 𝓤. headerW.clauses)
header_w_lem = settles headerW.ended _ _ _ (λ M 𝓤 𝓛 mem run κs a. refl) (λ κs a x y p q. (meet p q, refl))

pub header_n_lem : Settled headerN.ended (λ M 𝓤. headerN.clauses)
header_n_lem = settles headerN.ended _ _ _ (λ M 𝓤 𝓛 mem run κs a. refl) (λ κs a x y p q. (meet p q, refl))

pub has_field_lem : Settled has_field.ended (λ M 𝓤. has_field.clauses)
has_field_lem = settles has_field.ended _ _ _ (λ M 𝓤 𝓛 mem run κs a. refl) (λ κs a x y p q. (meet p q, refl))
