-- Locations as the code finds and keeps them.
use Rattle.std.proofs.Common.{◌≡◌, ◌≢◌, ◌∙◌, ℕ, ◌+◌, ◌-◌, ◌^◌, ◌<◌, ◌≤◌, inl, inr, List, [], ◌∷◌, ◌++◌, length, get_or, Bool, true, false, Option, Some, None, cond, refl, ap, sym, subst, arith, length-append, true≢false}
use Rattle.std.specs.Prelude.{◌==◌, All, if◌then◌else◌, IfSome, ⊤}
use Rattle.std.specs.Option.{option_map, option_map_or, option_and_then}
use Rattle.std.proofs.lemmas.Bool.{cases_lt, eqb-true, eq-eqb}
use Rattle.std.proofs.lemmas.Bool.Decides.{nat_tests}
use Rattle.std.proofs.lemmas.List.{get_or_append_left, get_or_push, length_push}
use Rattle.glk_elf.specs.Sections.{text, placed_sections}
use Rattle.glk_elf.specs.Placing.{of_section}
use Rattle.glk_keys.specs.Definitions.{chosen_of}
use Rattle.glk_keys.specs.Rows.{row_at, is_definition}
use Rattle.glk_layout.proofs.InOrder.{home_known}
use Rattle.glk_layout.specs.Limits.{excess}
use Rattle.glk_placing.proofs.Bounds.{symbol_small}
use Rattle.glk_layout.specs.Layout.{symbol_at, section_address, section_size, address_within, made_address, IsLayout, IsPlaceable}
use Rattle.glk_layout.specs.Placed.{PlacedContents}
use Rattle.glk_layout.specs.Symbols.{is_in, home_of}
use Rattle.glk_layout.specs.declared.placing.Layout.{Layout}
use Rattle.glk_placing.proofs.SymbolLaws.{home_in, in_home, homed, home_located, located_home}
use Rattle.glk_placing.specs.Indices.{address_bound, location_in, AreLocationsTo, IsInSection}
use Rattle.glk_placing.specs.KeptSymbols.{kept_symbol}
use Rattle.glk_placing.specs.Locations.{location, symbol_location, kept_location}
use Rattle.glk_placing.specs.Programs.{PlacedProgram, AreSmall, contents_of, key_at}
use Rattle.glk_placing.specs.Tables.{HoldsPlaces}
use Rattle.glk_placing.specs.declared.location.Location.{Location}
use Rattle.glk_keys.specs.Rows.{row_count}
use Rattle.glk_layout.specs.Sections.{AreRanges}
use Rattle.glk_merge.specs.Mergings.{IsKey}
use Rattle.glk_placing.specs.Indices.{AreIndices}

-- the range of a section by the index of its number
pub range_start : (c : PlacedContents) (l : Layout) (index n : ℕ) → IsLayout c l → index + 1 ≡ n → text ≤ n → n ≤ placed_sections → get_or l.addrs index 0 ≡ section_address c n
range_start c l index n layout e low high =
    let at : index ≡ n - 1 = omega arith in
    ap (λ j. get_or l.addrs j 0) at ∙ layout.addrs n low high

pub range_size : (c : PlacedContents) (l : Layout) (index n : ℕ) → IsLayout c l → index + 1 ≡ n → text ≤ n → n ≤ placed_sections → get_or l.sizes index 0 ≡ section_size c n
range_size c l index n layout e low high =
    let at : index ≡ n - 1 = omega arith in
    ap (λ j. get_or l.sizes j 0) at ∙ layout.sizes n low high

-- a home with an address in it is a location
pub joined : (f : ℕ → ℕ) (home : Option ℕ) (n a : ℕ) → home ≡ Some n → option_map f home ≡ Some a → option_map (λ m. location m (f m)) home ≡ Some (location n a)
joined f None n a e at = absurd (let bad : None ≡ Some n = e in cc)
joined f (Some m) n a e at =
    let same : m ≡ n = (let some : Some m ≡ Some n = e in cc) in
    let here : f m ≡ a = (let some : Some (f m) ≡ Some a = at in cc) in
    (λ z. Some (location (same z) (here z)))

pub no_home : (f : ℕ → ℕ) (home : Option ℕ) → option_map f home ≡ None → option_map (λ m. location m (f m)) home ≡ None
no_home f None e = refl
no_home f (Some m) e = absurd (let bad : Some (f m) ≡ None = e in cc)

pub located_in : (n a : ℕ) → 1 ≤ n → location_in n a ≡ Some (location n a)
located_in n a some = let other : (n == 0) ≡ false = grind (arith, nat_tests) in ap (λ b. if b then None else Some (location n a)) other

-- one location more
pub locations_more : (s : PlacedProgram) (i section address : ℕ) (sections addresses sections' addresses' : List ℕ) → AreLocationsTo s i sections addresses
    → sections' ≡ sections ++ section ∷ [] → addresses' ≡ addresses ++ address ∷ [] → section ≤ placed_sections → address ≤ address_bound
    → location_in section address ≡ kept_location s i → AreLocationsTo s (i + 1) sections' addresses'
locations_more s i section address sections addresses sections' addresses' to s_is a_is within low stands = record {
  sections_long = ap length s_is ∙ (length_push sections section ∙ ap (λ n. n + 1) to.sections_long);
  addresses_long = ap length a_is ∙ (length_push addresses address ∙ ap (λ n. n + 1) to.addresses_long);
  within = λ k lt. elim (cases_lt k i) [
    | inl below ↦
        let at = section_kept k below in
        let before = to.within k below in
        omega (arith, at, before)
    | inr from ↦
        let at = section_new k (omega arith) in
        omega (arith, at, within)
  ];
  low = λ k lt. elim (cases_lt k i) [
    | inl below ↦
        let at = address_kept k below in
        let before = to.low k below in
        omega (arith, at, before)
    | inr from ↦
        let at = address_new k (omega arith) in
        omega (arith, at, low)
  ];
  each = λ k lt. elim (cases_lt k i) [
    | inl below ↦ (λ z. location_in (section_kept k below z) (address_kept k below z)) ∙ to.each k below
    | inr from ↦
        let same : i ≡ k = omega arith in
        (λ z. location_in (section_new k (sym same) z) (address_new k (sym same) z)) ∙ (stands ∙ ap (kept_location s) same)
  ];
}
  where
    section_kept : (k : ℕ) → k < i → get_or sections' k 0 ≡ get_or sections k 0
    section_kept k below = ap (λ xs. get_or xs k 0) s_is ∙ get_or_append_left sections (section ∷ []) 0 k (omega (arith, below, to.sections_long))

    address_kept : (k : ℕ) → k < i → get_or addresses' k 0 ≡ get_or addresses k 0
    address_kept k below = ap (λ xs. get_or xs k 0) a_is ∙ get_or_append_left addresses (address ∷ []) 0 k (omega (arith, below, to.addresses_long))

    section_new : (k : ℕ) → k ≡ i → get_or sections' k 0 ≡ section
    section_new k e = ap (λ xs. get_or xs k 0) s_is ∙ get_or_push sections section 0 k (to.sections_long ∙ sym e)

    address_new : (k : ℕ) → k ≡ i → get_or addresses' k 0 ≡ address
    address_new k e = ap (λ xs. get_or xs k 0) a_is ∙ get_or_push addresses address 0 k (to.addresses_long ∙ sym e)

pub locations_none : (s : PlacedProgram) (sections addresses : List ℕ) → sections ≡ [] → addresses ≡ [] → AreLocationsTo s 0 sections addresses
locations_none s sections addresses se ae = record {
  sections_long = ap length se;
  addresses_long = ap length ae;
  within = λ k lt. absurd (omega (arith, lt));
  low = λ k lt. absurd (omega (arith, lt));
  each = λ k lt. absurd (omega (arith, lt));
}

-- What is in a section, by its number in the table.
module _ (s : PlacedProgram) (n i section address : ℕ) (some : text ≤ n) (inside : i < length s.kept) (at : location_in section address ≡ kept_location s i) where
  abbrev here : Bool
  here = is_in n (kept_symbol s.program (key_at s i))

  in_table : is_in n (kept_symbol s.program (key_at s i)) ≡ true → section ≡ n
  in_table e =
      let located = home_located s i n inside (home_in (kept_symbol s.program (key_at s i)) n e) in
      by_test (section == 0) refl (at ∙ located)
    where
      by_test : (b : Bool) → (section == 0) ≡ b → (if b then None else Some (location section address)) ≡ Some (location n (address_within (contents_of s) n i)) → section ≡ n
      by_test true t e = absurd (let bad : None ≡ Some (location n (address_within (contents_of s) n i)) = e in cc)
      by_test false t e =
          let same : location section address ≡ location n (address_within (contents_of s) n i) = (let some : Some (location section address) ≡ Some (location n (address_within (contents_of s) n i)) = e in cc) in
          ap (λ (l : Location). l.section) same

  pub other_section : section ≢ n → is_in n (kept_symbol s.program (key_at s i)) ≡ false
  other_section other = cases (is_in n (kept_symbol s.program (key_at s i))) refl
    where
      cases : (b : Bool) → is_in n (kept_symbol s.program (key_at s i)) ≡ b → is_in n (kept_symbol s.program (key_at s i)) ≡ false
      cases true e = absurd (other (in_table e))
      cases false e = e

  pub no_definition : ((r : ℕ) → chosen_of s.program (key_at s i) ≡ Some r → is_definition (row_at s.program r) ≡ false) → is_in n (kept_symbol s.program (key_at s i)) ≡ false
  no_definition none = cases (is_in n (kept_symbol s.program (key_at s i))) refl
    where
      cases : (b : Bool) → is_in n (kept_symbol s.program (key_at s i)) ≡ b → is_in n (kept_symbol s.program (key_at s i)) ≡ false
      cases true e =
          let h = homed s.program (key_at s i) n (home_in (kept_symbol s.program (key_at s i)) n e) in
          absurd (true≢false (sym h.definition ∙ none h.row h.chosen))
      cases false e = e

  pub a_definition : (r : ℕ) → section ≡ n → chosen_of s.program (key_at s i) ≡ Some r → is_definition (row_at s.program r) ≡ true → is_in n (kept_symbol s.program (key_at s i)) ≡ true
  a_definition r same chosen definition =
      let found : location_in section address ≡ Some (location section address) = located_in section address (omega arith) in
      let Home : ℕ → Type 0 = λ m. home_of (kept_symbol s.program (key_at s i)) ≡ Some m in
      in_home (kept_symbol s.program (key_at s i)) n (subst Home same (located_home s i r section address inside chosen definition (sym at ∙ found)))

  pub by_definition : (r : ℕ) → section ≡ n → chosen_of s.program (key_at s i) ≡ Some r → is_definition (row_at s.program r) ≡ is_in n (kept_symbol s.program (key_at s i))
  by_definition r same chosen = cases (is_definition (row_at s.program r)) refl
    where
      cases : (b : Bool) → is_definition (row_at s.program r) ≡ b → is_definition (row_at s.program r) ≡ is_in n (kept_symbol s.program (key_at s i))
      cases true e = e ∙ sym (a_definition r same chosen e)
      cases false e = e ∙ sym (no_definition (λ q found.
          let one : r ≡ q = (let both : Some r ≡ Some q = sym chosen ∙ found in cc) in
          ap (λ m. is_definition (row_at s.program m)) (sym one) ∙ e))

-- the location of a symbol is in a section
pub symbol_within : (c : PlacedContents) (i : ℕ) (o : Option Location) → IsPlaceable c → excess c ≡ None → i < length c.symbols → o ≡ symbol_location c i → IfSome o IsInSection
symbol_within c i o p none lt e =
    let P : Option Location → Type 0 = λ x. IfSome x IsInSection in
    subst P (sym e) (by_home (home_of (symbol_at c i)) refl)
  where
    by_home : (h : Option ℕ) → home_of (symbol_at c i) ≡ h → IfSome (option_map (λ n. location n (address_within c n i)) h) IsInSection
    by_home None x = tt
    by_home (Some n) x =
        let known = home_known (symbol_at c i) n x in
        let high = known.1 in
        let small = symbol_small c n i p none lt x in
        record { from = known.0; to = omega (arith, high); low = omega (arith, small) }

-- What the tables have at an index.

pub none_located : (s : PlacedProgram) (i section address : ℕ) → location_in section address ≡ kept_location s i → section ≡ 0 → None ≡ kept_location s i
none_located s i section address at e =
    let test : (section == 0) ≡ true = eq-eqb section 0 e in
    sym (ap (λ b. if b then None else Some (location section address)) test) ∙ at

pub some_located : (s : PlacedProgram) (i section address : ℕ) → location_in section address ≡ kept_location s i → section ≢ 0 → Some (location section address) ≡ kept_location s i
some_located s i section address at other =
    let test : (section == 0) ≡ false = grind (arith, nat_tests) in
    sym (ap (λ b. if b then None else Some (location section address)) test) ∙ at

-- The tables hold what was placed.
pub holds : (s : PlacedProgram) (c : PlacedContents) (l : Layout) (indices sections addresses : List ℕ) → c ≡ contents_of s
    → All (IsKey s.program) s.kept → length s.kept ≤ 2 ^ 24 → AreSmall s.made s.tables → IsLayout c l → excess c ≡ None
    → AreIndices s.kept (row_count s.program) indices → AreLocationsTo s (length s.kept) sections addresses
    → HoldsPlaces s l.addrs l.sizes l.made.items indices sections addresses
holds s c l indices sections addresses e keys few small layout none are locations =
    let P : PlacedContents → Type 0 = λ q. IsLayout q l in
    let Q : PlacedContents → Type 0 = λ q. excess q ≡ None in
    let at : IsLayout (contents_of s) l = subst P e layout in
    record {
      keys = keys;
      few = few;
      small = small;
      within = subst Q e none;
      ranges = record { addrs_at = at.addrs; sizes_at = at.sizes; placed = at.placed };
      made_count = at.made_count;
      made_at = λ i lt. at.made i lt;
      indices_are = are;
      locations = locations;
    }
