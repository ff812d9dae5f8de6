-- Train files, read and written; computed. Assumes nothing.
use mathlib.Core.Path.{◌≡◌, refl}
use Prim.Native.Nat.{ℕ}
use mathlib.Core.List.{List, [], ◌∷◌, map, flat_map}
use Rattle.base.specs.Answers.{Answer, given, refused}
use Rattle.base.specs.BigEndian.{big_endian, value_after}
use Rattle.base.specs.Streams.{stream_from}
use Rattle.train.specs.Train.{Numbered, Records, TrainEnd, ended, refused_by, short_head, long_head, head_with, head_of, counted_width, head_for, fields_of, held_by, train_in, train_of, short_head_of, short_train_in}
use Rattle.train.specs.declared.TrainHead.{TrainHead}

files : List (List ℕ)
files =
    []
    ∷ (0 ∷ [])
    ∷ (1 ∷ [])
    ∷ (1 ∷ 0 ∷ 3 ∷ 0 ∷ 42 ∷ 0x7f ∷ [])
    ∷ (1 ∷ 0 ∷ 3 ∷ 0 ∷ 42 ∷ 0x7f ∷ 0 ∷ [])
    ∷ (1 ∷ 0 ∷ 3 ∷ 0 ∷ 42 ∷ 0x7f ∷ 0 ∷ 2 ∷ 0 ∷ 43 ∷ [])
    ∷ (1 ∷ 0 ∷ 3 ∷ 0 ∷ 42 ∷ 0x7f ∷ 0 ∷ 4 ∷ 0 ∷ 43 ∷ 0x30 ∷ [])
    ∷ (1 ∷ 0 ∷ 2 ∷ [])
    ∷ (1 ∷ 0 ∷ 3 ∷ [])
    ∷ (1 ∷ 3 ∷ 0 ∷ 0 ∷ 42 ∷ 0x7f ∷ [])
    ∷ []

-- the same with length fields of four bytes, and one whose length has more than 16 bits
long_files : List (List ℕ)
long_files =
    (3 ∷ [])
    ∷ (2 ∷ [])
    ∷ (2 ∷ 0 ∷ 0 ∷ 0 ∷ 3 ∷ 0 ∷ 42 ∷ 0x7f ∷ [])
    ∷ (2 ∷ 0 ∷ 0 ∷ 0 ∷ 3 ∷ 0 ∷ 42 ∷ 0x7f ∷ 0 ∷ 0 ∷ 0 ∷ [])
    ∷ (2 ∷ 0 ∷ 0 ∷ 0 ∷ 3 ∷ 0 ∷ 42 ∷ 0x7f ∷ 0 ∷ 0 ∷ 0 ∷ 2 ∷ [])
    ∷ (2 ∷ 0 ∷ 0 ∷ 0 ∷ 3 ∷ 0 ∷ 42 ∷ 0x7f ∷ 0 ∷ 0 ∷ 0 ∷ 3 ∷ 0 ∷ [])
    ∷ (2 ∷ 0 ∷ 1 ∷ 0 ∷ 3 ∷ 0 ∷ 42 ∷ 0x7f ∷ [])
    ∷ []

-- the one packet of most of them
abbrev one : List Numbered
one = record { number = 42; payload = 0x7f ∷ [] } ∷ []

abbrev train : List Numbered → TrainEnd → Answer Records
train packets stop = given (record { items = packets; stop = stop })

read :
    map train_in files
    ≡ refused 21 0 ∷ refused 21 0 ∷ train [] ended ∷ train one ended ∷ train one (refused_by 22) ∷ train one (refused_by 23)
    ∷ train one (refused_by 22) ∷ train [] (refused_by 23) ∷ train [] (refused_by 22) ∷ train [] (refused_by 22) ∷ []
unfolding files head_with head_of stream_from fields_of held_by value_after
read = refl

long_read :
    map train_in long_files
    ≡ refused 21 0 ∷ train [] ended ∷ train one ended ∷ train one (refused_by 22) ∷ train one (refused_by 23) ∷ train one (refused_by 22)
    ∷ train [] (refused_by 22) ∷ []
unfolding long_files head_with head_of stream_from fields_of held_by value_after
long_read = refl

-- by a reader of version 1 alone
short_read : map short_train_in long_files ≡ map (λ (l : List ℕ). refused 21 0) long_files
unfolding long_files short_head_of
short_read = refl

-- the head for payloads of so many bytes at most
heads : map head_for (0 ∷ 3 ∷ 65533 ∷ 65534 ∷ 1048576 ∷ []) ≡ short_head ∷ short_head ∷ short_head ∷ long_head ∷ long_head ∷ []
heads = refl

-- what widths count as
counted : map counted_width (0 ∷ 1 ∷ 2 ∷ 3 ∷ 4 ∷ 5 ∷ []) ≡ 2 ∷ 2 ∷ 2 ∷ 2 ∷ 4 ∷ 2 ∷ []
counted = refl

-- two packets, written in both versions
packets : List Numbered
packets = record { number = 42; payload = 0x58 ∷ 8 ∷ [] } ∷ record { number = 65535; payload = 0x90 ∷ 0x7f ∷ 0x30 ∷ [] } ∷ []

written :
    map (λ (h : TrainHead). train_of h packets) (short_head ∷ long_head ∷ [])
    ≡ (1 ∷ 0 ∷ 4 ∷ 0 ∷ 42 ∷ 0x58 ∷ 8 ∷ 0 ∷ 5 ∷ 0xff ∷ 0xff ∷ 0x90 ∷ 0x7f ∷ 0x30 ∷ [])
    ∷ (2 ∷ 0 ∷ 0 ∷ 0 ∷ 4 ∷ 0 ∷ 42 ∷ 0x58 ∷ 8 ∷ 0 ∷ 0 ∷ 0 ∷ 5 ∷ 0xff ∷ 0xff ∷ 0x90 ∷ 0x7f ∷ 0x30 ∷ [])
    ∷ []
unfolding packets flat_map big_endian
written = refl
