-- The same of the small public calls (K1, K2).
use Rattle.settled.specs.Settled.{Settled}
use Rattle.base.specs.contracts.number as number
use Rattle.base.specs.contracts.smaller as smaller
use Rattle.base.specs.contracts.same_numbers as same_numbers
use Rattle.leb128.specs.contracts.is_padded as is_padded
use Rattle.leb128.specs.contracts.leb128_size as leb128Size
use Rattle.obu.specs.contracts.obu_type as obuType
use Rattle.obu.specs.contracts.obu_has_extension as obuHasExtension
use Rattle.obu.specs.contracts.obu_has_size as obuHasSize
use Rattle.obu.specs.contracts.without_size_bit as without_size_bit
use Rattle.obu.specs.contracts.with_size_bit as withSizeBit
use Rattle.obu.specs.contracts.header_size as header_length
use Rattle.obu.specs.contracts.should_ignore_obu_type as shouldIgnoreObuType
use Rattle.element.specs.contracts.header_z as headerZ
use Rattle.element.specs.contracts.header_y as headerY
use Rattle.element.specs.contracts.header_w as headerW
use Rattle.element.specs.contracts.header_n as headerN
use Rattle.element.specs.contracts.has_field as has_field
use Rattle.settled.proofs.SmallCalls as small

pub number_of : Settled number.ended (λ M 𝓤. number.clauses)
number_of = small.number_of

pub smaller_of : Settled smaller.ended (λ M 𝓤. smaller.clauses)
smaller_of = small.smaller_of

pub same_numbers_lem : Settled same_numbers.ended (λ M 𝓤. same_numbers.clauses)
same_numbers_lem = small.same_numbers_lem

pub leb128_size_lem : Settled leb128Size.ended (λ M 𝓤. leb128Size.clauses)
leb128_size_lem = small.leb128_size_lem

pub is_padded_lem : Settled is_padded.ended (λ M 𝓤. is_padded.clauses)
is_padded_lem = small.is_padded_lem

pub obu_type_lem : Settled obuType.ended (λ M 𝓤. obuType.clauses)
obu_type_lem = small.obu_type_lem

pub obu_has_extension_lem : Settled obuHasExtension.ended (λ M 𝓤. obuHasExtension.clauses)
obu_has_extension_lem = small.obu_has_extension_lem

pub obu_has_size_lem : Settled obuHasSize.ended (λ M 𝓤. obuHasSize.clauses)
obu_has_size_lem = small.obu_has_size_lem

pub without_size_bit_lem : Settled without_size_bit.ended (λ M 𝓤. without_size_bit.clauses)
without_size_bit_lem = small.without_size_bit_lem

pub with_size_bit_lem : Settled withSizeBit.ended (λ M 𝓤. withSizeBit.clauses)
with_size_bit_lem = small.with_size_bit_lem

pub header_length_lem : Settled header_length.ended (λ M 𝓤. header_length.clauses)
header_length_lem = small.header_length_lem

pub should_ignore_obu_type_lem : Settled shouldIgnoreObuType.ended (λ M 𝓤. shouldIgnoreObuType.clauses)
should_ignore_obu_type_lem = small.should_ignore_obu_type_lem

pub header_z_lem : Settled headerZ.ended (λ M 𝓤. headerZ.clauses)
header_z_lem = small.header_z_lem

pub header_y_lem : Settled headerY.ended (λ M 𝓤. headerY.clauses)
header_y_lem = small.header_y_lem

pub header_w_lem : Settled headerW.ended (λ M 𝓤. headerW.clauses)
header_w_lem = small.header_w_lem

pub header_n_lem : Settled headerN.ended (λ M 𝓤. headerN.clauses)
header_n_lem = small.header_n_lem

pub has_field_lem : Settled has_field.ended (λ M 𝓤. has_field.clauses)
has_field_lem = small.has_field_lem
