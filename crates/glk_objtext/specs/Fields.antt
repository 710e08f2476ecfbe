-- The fields of a line.
use Rattle.std.specs.Prelude.{◌==◌, ℕ, Bool, true, false, List, ◌∷◌, [], ◌++◌, if◌then◌else◌, slice_index_or}
use Rattle.glk_objtext.specs.declared.fields.Mode.{Mode}
use Rattle.glk_objtext.specs.declared.fields.Mode.TheVariants.{Between, Bare, Quoted, Escaped}

abbrev pub space : ℕ
space = 32

abbrev pub quote : ℕ
quote = 34

abbrev pub backslash : ℕ
backslash = 92

-- Where a byte leads. A field that begins with a quote runs to the next quote that is not the second
-- byte of a backslash pair, and from there on, like any other, to the next space.
unfoldable pub next_mode : Mode → ℕ → Mode
next_mode Between b = if b == space then Between else if b == quote then Quoted else Bare
next_mode Bare b = if b == space then Between else Bare
next_mode Quoted b = if b == quote then Bare else if b == backslash then Escaped else Quoted
next_mode Escaped b = Quoted

abbrev pub is_between : Mode → Bool
is_between Between = true
is_between Bare = false
is_between Quoted = false
is_between Escaped = false

-- how many fields are open: one or none
abbrev pub open_count : Mode → ℕ
open_count mode = if is_between mode then 0 else 1

-- the field that ends here, where one does
abbrev pub field_ended : Mode → List ℕ → List (List ℕ)
field_ended mode field = if is_between mode then [] else field ∷ []

-- the fields of what is left, the first of which has begun with these bytes unless none has begun
unfoldable pub fields_from : Mode → List ℕ → List ℕ → List (List ℕ)
fields_from mode field [] = field_ended mode field
fields_from mode field (b ∷ rest) =
    if is_between (next_mode mode b) then field_ended mode field ++ fields_from Between [] rest
    else fields_from (next_mode mode b) (field ++ b ∷ []) rest

-- the fields of a line, which one or more spaces part; the line's end ends the last one
abbrev pub fields : List ℕ → List (List ℕ)
fields line = fields_from Between [] line

-- the field of this number, from 0; empty where there is none
abbrev pub field_at : List (List ℕ) → ℕ → List ℕ
field_at fs n = slice_index_or fs n []
