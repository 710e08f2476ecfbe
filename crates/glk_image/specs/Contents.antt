-- The bytes of a section before its fields are written: contents at their addresses, and padding everywhere else.
use Rattle.std.specs.Prelude.{ℕ, ◌+◌, ◌-◌, ◌≤◌, List, [], ◌∷◌, ◌++◌, length, take, drop, replicate, AllPairs}
use Rattle.glk_image.specs.declared.contents.Content.{Content}

-- where a content ends
abbrev pub end_of : Content → ℕ
end_of c = c.at + c.size

-- the bytes of a content: its data, and zeros up to its size
abbrev pub content_bytes : Content → List ℕ
content_bytes c = c.bytes.now ++ replicate (c.size - length c.bytes.now) 0

-- the data of a content are no longer than its size
abbrev pub HasRoom : Content → Type 0
HasRoom c = length c.bytes.now ≤ c.size

-- a content is between two addresses
abbrev pub IsWithin : ℕ → ℕ → Content → Type 0
IsWithin from to c = (from ≤ c.at) × (end_of c ≤ to)

-- no content of the list begins before an earlier one ends
abbrev pub AreApart : List Content → Type 0
AreApart contents = AllPairs (λ c d. end_of c ≤ d.at) contents

-- bytes that begin at the address `start`, with a content written at its address
abbrev pub with_content : ℕ → List ℕ → Content → List ℕ
with_content start bytes c = take (c.at - start) bytes ++ content_bytes c ++ drop (end_of c - start) bytes

-- the same with contents written one after the other
unfoldable pub with_contents : ℕ → List ℕ → List Content → List ℕ
with_contents start bytes [] = bytes
with_contents start bytes (c ∷ cs) = with_contents start (with_content start bytes c) cs

-- the bytes of a section of this padding byte, address and size
abbrev pub section_bytes : ℕ → ℕ → ℕ → List Content → List ℕ
section_bytes padding start size contents = with_contents start (replicate size padding) contents
