-- What stands in the bytes of a section, address by address.
use Rattle.std.specs.Prelude.{◌≡◌, ℕ, ◌+◌, ◌<◌, ◌≤◌, ◌⊎◌, List, length, get_or, All, Contains}
use Rattle.glk_image.specs.declared.contents.Content.{Content}
use Rattle.glk_image.specs.Contents.{end_of, content_bytes, HasRoom, IsWithin, AreApart, section_bytes}

-- an address is in no content
abbrev pub IsOutside : ℕ → Content → Type 0
IsOutside a c = (a < c.at) ⊎ (end_of c ≤ a)

-- each content stands at its address, and the padding byte everywhere else
pub record HoldsContents (padding start size : ℕ) (contents : List Content) (bytes : List ℕ) : Type 0 where
  pub long : length bytes ≡ size
  pub inside : (c : Content) (i p : ℕ) → Contains contents c → i < c.size → start + p ≡ c.at + i
      → get_or bytes p 0 ≡ get_or (content_bytes c) i 0
  pub outside : (p : ℕ) → p < size → All (IsOutside (start + p)) contents → get_or bytes p 0 ≡ padding

-- the bytes of a section are contents at their addresses, and padding everywhere else
abbrev pub SectionHoldsContents : Type 0
SectionHoldsContents =
    (padding start size : ℕ) (contents : List Content) → AreApart contents → All HasRoom contents
    → All (IsWithin start (start + size)) contents → HoldsContents padding start size contents (section_bytes padding start size contents)

-- and nothing else is
abbrev pub IsOneSection : Type 0
IsOneSection =
    (padding start size : ℕ) (contents : List Content) (a b : List ℕ)
    → HoldsContents padding start size contents a → HoldsContents padding start size contents b → a ≡ b
