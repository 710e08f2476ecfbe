-- Boxes: aligned stretches of memory, one after the other.
use Rattle.std.specs.Prelude.{ℕ, ◌+◌, List, take, get_or, fold}
use Rattle.glk_elf.specs.Image.{multiple_from}

-- the multiple that a box is on, and how many bytes it takes
pub record Box : Type 0 where
  pub align : ℕ
  pub room : ℕ

abbrev pub no_box : Box
no_box = record { align = 1; room = 0 }

-- the address of a box that is not before a bound: the least multiple of its alignment
abbrev pub box_address : ℕ → Box → ℕ
box_address bound b = multiple_from b.align bound

-- where such a box ends
abbrev pub box_end : ℕ → Box → ℕ
box_end bound b = box_address bound b + b.room

-- where boxes end, the first not before a bound, and each other one not before the end of the box before it
unfoldable pub end_after : ℕ → List Box → ℕ
end_after bound boxes = fold box_end bound boxes

-- the address of box i among them
abbrev pub address_in : ℕ → List Box → ℕ → ℕ
address_in bound boxes i = box_address (end_after bound (take i boxes)) (get_or boxes i no_box)

-- where box i among them ends
abbrev pub end_in : ℕ → List Box → ℕ → ℕ
end_in bound boxes i = address_in bound boxes i + (get_or boxes i no_box).room
