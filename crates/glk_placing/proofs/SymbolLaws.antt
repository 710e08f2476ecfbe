-- Which kept symbols are in the sections of an image: those of objects.
use Rattle.std.proofs.Common.{◌≡◌, ◌∙◌, ℕ, ◌+◌, ◌<◌, ◌≤◌, inl, inr, List, length, get_or, Bool, true, false, Option, Some, None, refl, ap, sym, subst, arith, true≢false}
use Rattle.std.specs.Prelude.{◌==◌, map, if◌then◌else◌}
use Rattle.std.specs.Option.{option_map, option_map_or, option_and_then, option_or}
use Rattle.std.proofs.lemmas.Bool.{cases_lt, eqb-true, eq-eqb}
use Rattle.std.proofs.lemmas.List.{get_or-map, get_or_past}
use Rattle.glk_keys.proofs.ContentLaws.{definition_of_object}
use Rattle.glk_keys.specs.Definitions.{chosen_of, made_name_of, object_definition}
use Rattle.glk_keys.specs.Programs.{Program}
use Rattle.glk_keys.specs.Rows.{Row, row_at, row_count, rows_of, no_row, is_definition, made_row}
use Rattle.glk_layout.specs.Layout.{symbol_at, address_within, no_symbol}
use Rattle.glk_layout.specs.Symbols.{is_in, home_of, section_of_kind}
use Rattle.glk_layout.specs.declared.input.KeptSymbol.{KeptSymbol}
use Rattle.glk_obj.specs.Symbols.{type_of}
use Rattle.glk_obj.specs.declared.symbols.SymKind.{SymKind}
use Rattle.glk_placing.specs.KeptSymbols.{placed_symbol, kept_symbol}
use Rattle.glk_placing.specs.Locations.{location, location_by, symbol_location, kept_location}
use Rattle.glk_placing.specs.Programs.{PlacedProgram, contents_of, key_at}
use Rattle.glk_placing.specs.declared.location.Location.{Location}

-- a symbol that is in a section has it as its home, and the other way round
pub home_in : (s : KeptSymbol) (n : ℕ) → is_in n s ≡ true → home_of s ≡ Some n
unfolding is_in
home_in s n e = cases (home_of s) refl e
  where
    cases : (o : Option ℕ) → home_of s ≡ o → option_map_or (λ h. h == n) o false ≡ true → home_of s ≡ Some n
    cases None x e = absurd (true≢false (sym e))
    cases (Some h) x e = x ∙ ap Some (eqb-true h n e)

pub in_home : (s : KeptSymbol) (n : ℕ) → home_of s ≡ Some n → is_in n s ≡ true
unfolding is_in
in_home s n home = ap (λ o. option_map_or (λ h. h == n) o false) home ∙ eq-eqb n n refl

-- made names are no definitions
made_out : (p : Program) (m : ℕ) → is_definition (row_at p (made_row p m)) ≡ false
unfolding made_row
made_out p m = cases (is_definition (row_at p (made_row p m))) refl
  where
    cases : (b : Bool) → is_definition (row_at p (made_row p m)) ≡ b → is_definition (row_at p (made_row p m)) ≡ false
    cases false e = e
    cases true e = elim (cases_lt (made_row p m) (row_count p)) [
      | inl inside ↦ absurd (let low = definition_of_object p (made_row p m) inside e in omega arith)
      | inr past ↦ ap is_definition (get_or_past (rows_of p) (made_row p m) no_row past)
    ]

chosen_made : (p : Program) (k m : ℕ) → made_name_of p k ≡ Some m → chosen_of p k ≡ Some (made_row p m)
unfolding chosen_of
chosen_made p k m e = ap (λ o. option_or (option_map (made_row p) o) (object_definition p k)) e

-- a key whose chosen row is a definition of an object is no made name
pub no_made_name : (p : Program) (k r : ℕ) → chosen_of p k ≡ Some r → is_definition (row_at p r) ≡ true → made_name_of p k ≡ None
no_made_name p k r chosen definition = cases (made_name_of p k) refl
  where
    cases : (o : Option ℕ) → made_name_of p k ≡ o → made_name_of p k ≡ None
    cases None e = e
    cases (Some m) e =
        let same : r ≡ made_row p m = (let both : Some r ≡ Some (made_row p m) = sym chosen ∙ chosen_made p k m e in cc) in
        absurd (true≢false (sym definition ∙ (ap (λ q. is_definition (row_at p q)) same ∙ made_out p m)))

-- a kept symbol that has a home is a definition of an object
pub record IsHomed (p : Program) (k n : ℕ) : Type 0 where
  pub row : ℕ
  pub chosen : chosen_of p k ≡ Some row
  pub definition : is_definition (row_at p row) ≡ true
  pub kind : SymKind
  pub kind_is : type_of (row_at p row).symbol.kind ≡ Some kind
  pub home : section_of_kind kind ≡ Some n

pub homed : (p : Program) (k n : ℕ) → home_of (kept_symbol p k) ≡ Some n → IsHomed p k n
unfolding kept_symbol
homed p k n e = by_row (chosen_of p k) refl e
  where
    by_kind : (r : ℕ) → chosen_of p k ≡ Some r → is_definition (row_at p r) ≡ true → (o : Option SymKind) → type_of (row_at p r).symbol.kind ≡ o
        → option_and_then section_of_kind o ≡ Some n → IsHomed p k n
    by_kind r chosen definition None kind home = absurd (let bad : None ≡ Some n = home in cc)
    by_kind r chosen definition (Some sort) kind home = record { row = r; chosen = chosen; definition = definition; kind = sort; kind_is = kind; home = home }

    by_definition : (r : ℕ) → chosen_of p k ≡ Some r → (b : Bool) → is_definition (row_at p r) ≡ b
        → option_and_then section_of_kind (if b then type_of (row_at p r).symbol.kind else None) ≡ Some n → IsHomed p k n
    by_definition r chosen false definition home = absurd (let bad : None ≡ Some n = home in cc)
    by_definition r chosen true definition home = by_kind r chosen definition (type_of (row_at p r).symbol.kind) refl home

    by_row : (o : Option ℕ) → chosen_of p k ≡ o → home_of (option_map_or (λ r. placed_symbol (row_at p r)) o no_symbol) ≡ Some n → IsHomed p k n
    by_row None chosen home = absurd (let bad : None ≡ Some n = home in cc)
    by_row (Some r) chosen home = by_definition r chosen (is_definition (row_at p r)) refl home

-- where a definition of an object is
pub symbol_is : (s : PlacedProgram) (i : ℕ) → i < length s.kept → symbol_at (contents_of s) i ≡ kept_symbol s.program (key_at s i)
symbol_is s i lt = get_or-map (kept_symbol s.program) s.kept i 0 no_symbol lt

pub definition_located : (s : PlacedProgram) (i r : ℕ) → chosen_of s.program (key_at s i) ≡ Some r → is_definition (row_at s.program r) ≡ true
    → kept_location s i ≡ symbol_location (contents_of s) i
unfolding kept_location
definition_located s i r chosen definition = ap (location_by (contents_of s) i) (no_made_name s.program (key_at s i) r chosen definition)

pub home_located : (s : PlacedProgram) (i n : ℕ) → i < length s.kept → home_of (kept_symbol s.program (key_at s i)) ≡ Some n
    → kept_location s i ≡ Some (location n (address_within (contents_of s) n i))
home_located s i n lt home =
    let h = homed s.program (key_at s i) n home in
    definition_located s i h.row h.chosen h.definition
    ∙ (ap (λ sym. option_map (λ m. location m (address_within (contents_of s) m i)) (home_of sym)) (symbol_is s i lt)
    ∙ ap (option_map (λ m. location m (address_within (contents_of s) m i))) home)

-- the home of a definition of an object, by its location
pub located_home : (s : PlacedProgram) (i r n a : ℕ) → i < length s.kept → chosen_of s.program (key_at s i) ≡ Some r → is_definition (row_at s.program r) ≡ true
    → kept_location s i ≡ Some (location n a) → home_of (kept_symbol s.program (key_at s i)) ≡ Some n
located_home s i r n a lt chosen definition at =
    by_home (home_of (symbol_at (contents_of s) i)) refl (sym (definition_located s i r chosen definition) ∙ at)
  where
    by_home : (o : Option ℕ) → home_of (symbol_at (contents_of s) i) ≡ o
        → option_map (λ m. location m (address_within (contents_of s) m i)) o ≡ Some (location n a) → home_of (kept_symbol s.program (key_at s i)) ≡ Some n
    by_home None home e = absurd (let bad : None ≡ Some (location n a) = e in cc)
    by_home (Some m) home e =
        let same : location m (address_within (contents_of s) m i) ≡ location n a = (let some : Some (location m (address_within (contents_of s) m i)) ≡ Some (location n a) = e in cc) in
        ap home_of (sym (symbol_is s i lt)) ∙ (home ∙ ap (λ (l : Location). Some l.section) same)
