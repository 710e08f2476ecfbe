-- The fields of each symbol are in a window of its section, and the windows of an image rise.
use Rattle.std.proofs.Common.{◌≡◌, ◌∙◌, ℕ, ℤ, zero, suc, ◌+◌, ◌-◌, ◌<◌, ◌≤◌, inl, inr, List, [], ◌∷◌, ◌++◌, length, get_or, Bool, true, false, Option, Some, None, cond, refl, ap, sym, subst, arith, append-nil, length-append}
use Rattle.std.specs.Prelude.{◌==◌, All, AllPairs, map, filter, nat_lt, max, unwrap_or, if◌then◌else◌}
use Rattle.std.specs.Option.{option_map, option_map_or, option_and_then}
use Rattle.std.specs.List.{range_with_len}
use Rattle.std.proofs.lemmas.Bool.{cases_lt, eq-eqb}
use Rattle.std.proofs.lemmas.List.Sorted.{All-permutation}
use Rattle.std.proofs.lemmas.Bool.Decides.{nat_tests}
use Rattle.std.proofs.lemmas.List.{get_or-map, length-map}
use Rattle.std.proofs.lemmas.List.Elements.{All-nil, All-push, All-append, All-map, All-weaker, All-from_get_or}
use Rattle.std.proofs.lemmas.List.Quantifiers.{all_pairs_push}
use Rattle.glk_elf.specs.Image.{image_base}
use Rattle.glk_elf.specs.Placing.{text_start}
use Rattle.glk_elf.specs.Sections.{text, rodata, noptrdata, written_data, noptrbss}
use Rattle.glk_keys.specs.Definitions.{chosen_of}
use Rattle.glk_keys.specs.Keys.{key_id}
use Rattle.glk_keys.specs.Programs.{Program}
use Rattle.glk_keys.specs.Relocations.{relocs_of}
use Rattle.glk_keys.specs.Rows.{row_at, is_definition}
use Rattle.glk_layout.proofs.InOrder.{symbols_in_order, sections_in_order, start_low, symbol_from}
use Rattle.glk_layout.specs.Layout.{section_start, section_end, symbol_at, address_within, no_symbol, IsPlaceable}
use Rattle.glk_layout.specs.Symbols.{is_in, home_of, room_of}
use Rattle.glk_layout.specs.declared.input.KeptSymbol.{KeptSymbol}
use Rattle.glk_merge.specs.Mergings.{IsKey}
use Rattle.glk_obj.specs.Records.{Reloc, field_start}
use Rattle.glk_obj.specs.Rules.{IsContentKind}
use Rattle.glk_obj.specs.Symbols.{type_of}
use Rattle.glk_obj.specs.declared.symbols.SymKind.{SymKind}
use Rattle.glk_placing.proofs.Bounds.{ends_up}
use Rattle.glk_placing.proofs.SymbolLaws.{IsHomed, home_in, in_home, homed, home_located, symbol_is}
use Rattle.glk_placing.specs.KeptSymbols.{placed_symbol, kept_symbol}
use Rattle.glk_placing.specs.Locations.{location, kept_location}
use Rattle.glk_placing.specs.Programs.{PlacedProgram, contents_of, key_at}
use Rattle.glk_placing.specs.declared.location.Location.{Location}
use Rattle.glk_reloc.specs.Fields.{IsSized, AreApart, IsWithin, end_of}
use Rattle.glk_reloc.specs.declared.fields.Field.{Field}
use Rattle.glk_fields.specs.declared.places.FieldPlace.{FieldPlace}
use Rattle.glk_placing.specs.Members.{is_at, indices_in, file_indices, of_symbol}
use Rattle.glk_fields.specs.Places.{reloc_in, row_field, symbol_field, place_field, fields_at, no_field, symbol_places, row_places, AreOrdered}
use Rattle.glk_fields.specs.Ready.{EndsInside, IsInFile}
use Rattle.glk_fields.specs.Values.{reloc_field}
use Rattle.glk_fields.proofs.OwnFields.{IsOwnPlace, FieldFacts, field_facts, places_to, own_sized, places_apart}
use Rattle.glk_fields.proofs.PlaceLists.{indices_below}
use Rattle.glk_fields.proofs.Sound.{AreSound, are_sound}
use Rattle.glk_fields.proofs.Windows.{AreWindowed, IsWindow, LiesIn, all_windows, pairs_append}
use Rattle.glk_reach.specs.Chosen.{is_key, chosen_row, definition_row, if_definition, key_relocs}
use Rattle.glk_reach.specs.RelocFaults.{reloc_fault}
use Rattle.glk_reloc.specs.Values.{IsFieldSize}

-- a symbol with a type has content
no_type : (n : ℕ) → 7 < n → type_of n ≡ None
no_type n high =
    let a : (n == 1) ≡ false = grind (arith, nat_tests) in
    let b : (n == 2) ≡ false = grind (arith, nat_tests) in
    let c : (n == 3) ≡ false = grind (arith, nat_tests) in
    let d : (n == 4) ≡ false = grind (arith, nat_tests) in
    let e : (n == 5) ≡ false = grind (arith, nat_tests) in
    let f : (n == 6) ≡ false = grind (arith, nat_tests) in
    let g : (n == 7) ≡ false = grind (arith, nat_tests) in
    rw (a, b, c, d, e, f, g) refl

content_kind : (n : ℕ) (kind : SymKind) → type_of n ≡ Some kind → IsContentKind n
content_kind n kind e =
    elim (cases_lt n 1) [
      | inl none ↦
          let P : ℕ → Type 0 = λ m. type_of m ≡ Some kind in
          let zero_is : n ≡ 0 = omega arith in
          absurd (let bad : None ≡ Some kind = subst P zero_is e in cc)
      | inr some ↦ elim (cases_lt 7 n) [
        | inl high ↦ absurd (let bad : None ≡ Some kind = sym (no_type n high) ∙ e in cc)
        | inr to ↦ (some, to)
      ]
    ]

-- The field of a place.
module _ (s : PlacedProgram) (i r : ℕ) (l : Location) (inside : i < length s.kept) (chosen : chosen_of s.program (key_at s i) ≡ Some r) (located : kept_location s i ≡ Some l) where
  place_found : (f : FieldPlace) (own : IsOwnPlace s i r l.address f) → symbol_field s f.index f.reloc ≡ Some own.field
  unfolding symbol_field row_field
  place_found f own =
      let here : nat_lt i (length s.kept) ≡ true = grind (arith, nat_tests) in
      let there : nat_lt f.reloc (length (relocs_of s.program r)) ≡ true = (let lt = own.inside in grind (arith, nat_tests)) in
      let F : ℕ → ℕ → Option Field = λ q a. if nat_lt f.reloc (length (relocs_of s.program q)) then reloc_field s q a (reloc_in s q f.reloc) else None in
      ap (λ m. symbol_field s m f.reloc) own.index
      ∙ (ap (λ b. if b then of_symbol s i F None else None) here
      ∙ (ap (λ o. option_map_or (λ q. option_map_or (λ (m : Location). F q m.address) (kept_location s i) None) o None) chosen
      ∙ (ap (λ o. option_map_or (λ (m : Location). F r m.address) o None) located
      ∙ (ap (λ b. if b then reloc_field s r l.address (reloc_in s r f.reloc) else None) there ∙ own.is))))

  pub place_is : (f : FieldPlace) (own : IsOwnPlace s i r l.address f) → place_field s f ≡ own.field
  place_is f own = ap (λ o. unwrap_or o no_field) (place_found f own)

  pub field_begins : (f : FieldPlace) → IsOwnPlace s i r l.address f → (place_field s f).at ≡ l.address + f.offset - image_base
  field_begins f own =
      let facts = field_facts s r l.address (reloc_in s r f.reloc) own.field own.is in
      ap (λ (g : Field). g.at) (place_is f own ∙ sym facts.field_is) ∙ ap (λ o. l.address + o - image_base) (sym own.offset)

  pub field_size : (f : FieldPlace) → IsOwnPlace s i r l.address f → (place_field s f).size ≡ (reloc_in s r f.reloc).size
  field_size f own =
      let facts = field_facts s r l.address (reloc_in s r f.reloc) own.field own.is in
      ap (λ (g : Field). g.size) (place_is f own ∙ sym facts.field_is)

  own_places : symbol_places s i ≡ row_places s i r l.address
  unfolding symbol_places
  own_places =
      ap (λ o. option_map_or (λ q. option_map_or (λ (m : Location). row_places s i q m.address) (kept_location s i) []) o []) chosen
      ∙ ap (λ o. option_map_or (λ (m : Location). row_places s i r m.address) o []) located

  pub own_of : (own : List FieldPlace) → AreOrdered (symbol_places s i) own → AreOrdered (row_places s i r l.address) own
  own_of own ordered = let P : List FieldPlace → Type 0 = λ xs. AreOrdered xs own in subst P own_places ordered

  pub all_own : (own : List FieldPlace) → AreOrdered (symbol_places s i) own → All (IsOwnPlace s i r l.address) own
  all_own own ordered =
      let to = places_to s i r l.address (length (relocs_of s.program r)) (let e : length (relocs_of s.program r) ≤ length (relocs_of s.program r) = omega arith in e) in
      All-permutation (IsOwnPlace s i r l.address) (row_places s i r l.address) own (own_of own ordered).permutation to.own

-- A symbol's room is no less than its size.
size_in_room : (b : Bool) (size : ℕ) → size ≤ (if b then max 16 size else size)
size_in_room true size = omega arith
size_in_room false size = omega arith

room_holds : (s : KeptSymbol) → s.size ≤ room_of s
unfolding room_of
room_holds s = size_in_room (is_in text s) s.size

-- The window of a kept symbol: from its address on, as many bytes as its size, by offsets in the file.
abbrev pub window_from : PlacedProgram → ℕ → ℕ
window_from s i = option_map_or (λ (l : Location). l.address - image_base) (kept_location s i) 0

abbrev pub window_to : PlacedProgram → ℕ → ℕ
window_to s i = window_from s i + (symbol_at (contents_of s) i).size

-- the relocations of the chosen row of a key are the key's
key_relocs_are : (p : Program) (k r : ℕ) → IsKey p k → chosen_of p k ≡ Some r → is_definition (row_at p r) ≡ true → key_relocs p k ≡ relocs_of p r
unfolding key_relocs definition_row chosen_row
key_relocs_are p k r key chosen definition =
    let own : is_key p k ≡ true = eq-eqb (key_id p k) k key.own in
    ap (λ b. option_map_or (relocs_of p) (option_and_then (if_definition p) (if b then chosen_of p k else None)) []) own
    ∙ (ap (λ o. option_map_or (relocs_of p) (option_and_then (if_definition p) o) []) chosen
    ∙ ap (λ b. option_map_or (relocs_of p) (if b then Some r else None) []) definition)

-- A symbol of a section in the file.
module _ (s : PlacedProgram) (placeable : IsPlaceable (contents_of s)) (n i : ℕ) (low : text ≤ n) (high : n ≤ written_data) (inside : i < length s.kept) (here : is_at s n i ≡ true) where
  home : home_of (kept_symbol s.program (key_at s i)) ≡ Some n
  home = home_in (kept_symbol s.program (key_at s i)) n here

  at : ℕ
  at = address_within (contents_of s) n i

  located_at : kept_location s i ≡ Some (location n (address_within (contents_of s) n i))
  located_at = home_located s i n inside home

  listed : i < length (contents_of s).symbols
  listed = omega (arith, inside, length-map s.kept (kept_symbol s.program))

  listed_in : is_in n (symbol_at (contents_of s) i) ≡ true
  listed_in = ap (is_in n) (symbol_is s i inside) ∙ here

  pub begins : window_from s i ≡ address_within (contents_of s) n i - image_base
  begins = ap (λ o. option_map_or (λ (l : Location). l.address - image_base) o 0) located_at

  pub above : section_start (contents_of s) n ≤ address_within (contents_of s) n i
  above = symbol_from (contents_of s) n i

  pub based : image_base ≤ section_start (contents_of s) n
  based = let a = start_low (contents_of s) n placeable low in omega (arith, a)

  pub ends : address_within (contents_of s) n i + (symbol_at (contents_of s) i).size ≤ section_end (contents_of s) n
  ends =
      let to = (symbols_in_order (contents_of s) n placeable low (omega arith)).to i listed listed_in in
      let room = room_holds (symbol_at (contents_of s) i) in
      omega (arith, to, room)

  -- the next symbol of the section is after it
  pub before : (j : ℕ) → i < j → j < length s.kept → address_within (contents_of s) n i + (symbol_at (contents_of s) i).size ≤ address_within (contents_of s) n j
  before j less lt =
      let next : j < length (contents_of s).symbols = omega (arith, lt, length-map s.kept (kept_symbol s.program)) in
      let apart = (symbols_in_order (contents_of s) n placeable low (omega arith)).apart i j less next listed_in in
      let room = room_holds (symbol_at (contents_of s) i) in
      omega (arith, apart, room)

  module _ (key : IsKey s.program (key_at s i)) (fault : reloc_fault s.program (key_at s i) ≡ None) where
    is_homed : IsHomed s.program (key_at s i) n
    is_homed = homed s.program (key_at s i) n home

    size_is : (symbol_at (contents_of s) i).size ≡ (row_at s.program is_homed.row).symbol.size
    unfolding kept_symbol
    size_is =
        ap (λ (sym : KeptSymbol). sym.size) (symbol_is s i inside)
        ∙ ap (λ o. (option_map_or (λ r. placed_symbol (row_at s.program r)) o no_symbol).size) is_homed.chosen

    relocs_are : key_relocs s.program (key_at s i) ≡ relocs_of s.program is_homed.row
    relocs_are = key_relocs_are s.program (key_at s i) is_homed.row key is_homed.chosen is_homed.definition

    sound : AreSound s.program (key_at s i)
    sound = are_sound s.program (key_at s i) fault

    -- the field of one of its places
    field_in : (f : FieldPlace) → IsOwnPlace s i is_homed.row (location n (address_within (contents_of s) n i)).address f → EndsInside s f
        → IsSized (place_field s f) × IsWithin (window_from s i) (window_to s i) (place_field s f) × IsInFile s (place_field s f)
    field_in f own end =
        let r : ℕ = is_homed.row in
        let l : Location = location n (address_within (contents_of s) n i) in
        let begin : (place_field s f).at ≡ address_within (contents_of s) n i + f.offset - image_base = field_begins s i r l inside is_homed.chosen located_at f own in
        let size : (place_field s f).size ≡ (reloc_in s r f.reloc).size = field_size s i r l inside is_homed.chosen located_at f own in
        let Chosen : ℕ → Type 0 = λ m. chosen_of s.program (key_at s m) ≡ Some r in
        let fits : f.offset + (reloc_in s r f.reloc).size ≤ (row_at s.program r).symbol.size =
        end r (subst Chosen (sym own.index) is_homed.chosen) (content_kind (row_at s.program r).symbol.kind is_homed.kind is_homed.kind_is) in
        let Sized : ℕ → Type 0 = λ m. IsFieldSize m in
        let a = above in
        let b = based in
        let e = ends in
        let w = begins in
        let z = size_is in (
          subst Sized (sym size) (own_sized s i r l.address (key_at s i) relocs_are sound f own),
          (omega (arith, begin, w, a, b), omega (arith, begin, size, fits, w, z, a, b)),
          record {
            section = n;
            first = low;
            last = high;
            from = omega (arith, begin, a, b);
            to = omega (arith, begin, size, fits, z, a, b, e);
          },
        )

    pub window : IsWindow s (window_from s i) (window_to s i) i
    window own ordered inner =
        let r : ℕ = is_homed.row in
        let l : Location = location n (address_within (contents_of s) n i) in
        let owned = all_own s i r l inside is_homed.chosen located_at own ordered in
        let pairs = places_apart s i r l.address (key_at s i) relocs_are sound own (own_of s i r l inside is_homed.chosen located_at own ordered) in
        let each = λ (k : ℕ) (d : FieldPlace) (lt : k < length own). field_in (get_or own k d) (owned k d lt) (inner k d lt) in
        record {
          sized = All-map IsSized (place_field s) own (λ k d lt. (each k d lt).0);
          apart = λ x y d less lt.
              let long : length (map (place_field s) own) ≡ length own = length-map own (place_field s) in
              let e : FieldPlace = record { index = 0; offset = 0; reloc = 0 } in
              let f : FieldPlace = get_or own x e in
              let g : FieldPlace = get_or own y e in
              let fx = get_or-map (place_field s) own x e d (omega (arith, less, lt, long)) in
              let gy = get_or-map (place_field s) own y e d (omega (arith, lt, long)) in
              let apart = pairs x y e less (omega (arith, lt, long)) in
              let bf = field_begins s i r l inside is_homed.chosen located_at f (owned x e (omega (arith, less, lt, long))) in
              let bg = field_begins s i r l inside is_homed.chosen located_at g (owned y e (omega (arith, lt, long))) in
              let sf = field_size s i r l inside is_homed.chosen located_at f (owned x e (omega (arith, less, lt, long))) in
              let a = above in
              let b = based in
              let P : Field → Type 0 = λ h. end_of h ≤ (get_or (map (place_field s) own) y d).at in
              let Q : Field → Type 0 = λ h. end_of (place_field s f) ≤ h.at in
              subst P (sym fx) (subst Q (sym gy) (omega (arith, apart, bf, bg, sf, a, b)));
          within = All-map (IsWithin (window_from s i) (window_to s i)) (place_field s) own (λ k d lt. (each k d lt).1);
          inside = All-map (IsInFile s) (place_field s) own (λ k d lt. (each k d lt).2);
        }
