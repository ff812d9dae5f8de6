-- What came is within what was asked for. Assumes nothing.
use Rattle.std.proofs.Common.{◌≡◌, ℕ, ◌≤◌, List, length, take, sym, arith, length-take-le}
use Rattle.std.specs.Prelude.{Ok, Err}
use Rattle.turns.specs.Orders.{Came, CameWithin}

pub came_most : (c : Came) (n most : ℕ) → c ≡ Ok n → CameWithin c most → n ≤ most
came_most c n most e h = rw e at h

-- the bytes that came are so many
pub came_part : {c : Came} {n most : ℕ} (input : List ℕ) → c ≡ Ok n → CameWithin c most → length input ≡ most → n ≡ length (take n input)
came_part {c} {n} {most} input e h k =
    sym (length-take-le n input (omega (arith, came_most c n most e h)))

pub came_wider : (c : Came) (n most : ℕ) → n ≤ most → CameWithin c n → CameWithin c most
came_wider (Ok k) n most h w = omega arith
came_wider (Err failed) n most h w = tt
