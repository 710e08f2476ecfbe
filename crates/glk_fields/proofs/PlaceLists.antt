-- Places of fields, one after the other.
use Rattle.std.proofs.Common.{◌≡◌, ◌∙◌, ◌+◌, ℕ, zero, suc, List, [], ◌∷◌, ◌++◌, length, Bool, true, false, Some, None, cond, refl, ap, sym, subst, arith, append-nil, append_assoc}
use Rattle.std.specs.Prelude.{filter, All, if◌then◌else◌}
use Rattle.std.specs.List.{filter_map, range_with_len}
use Rattle.std.proofs.lemmas.List.Elements.{filter_map-append, filter-append, All-nil, All-append}
use Rattle.glk_keys.specs.Programs.{Program}
use Rattle.glk_keys.specs.Relocations.{relocs_of, object_relocs}
use Rattle.glk_keys.specs.Rows.{row_at, object_at, is_definition}
use Rattle.glk_placing.specs.Programs.{PlacedProgram}
use Rattle.glk_fields.specs.declared.places.FieldPlace.{FieldPlace}
use Rattle.glk_fields.specs.Added.{AddsPlaces}
use Rattle.glk_fields.specs.Ready.{EndsInside}
use Rattle.glk_elf.specs.Sections.{text, rodata, noptrdata, written_data}
use Rattle.glk_placing.specs.Members.{is_at, indices_in, file_indices}
use Rattle.glk_fields.specs.Places.{place_at, places_below, row_places, symbol_places, AreOrdered, ArePlacesOf}

range_more : (a n j : ℕ) → a + n ≡ j → range_with_len a (n + 1) ≡ range_with_len a n ++ j ∷ []
range_more a zero j e = let h : a ≡ j = omega arith in rw h refl
range_more a (suc n) j e = let m : suc n + 1 ≡ suc (n + 1) = omega arith in rw m (ap (λ rest. a ∷ rest) (range_more (a + 1) n j (omega arith)))

pub places_more : (s : PlacedProgram) (i r address n : ℕ) (f : FieldPlace) → place_at s i r address n ≡ Some f → places_below s i r address (n + 1) ≡ places_below s i r address n ++ f ∷ []
places_more s i r address n f e = rw (range_more 0 n n (omega arith), filter_map-append) (simp e)

pub places_same : (s : PlacedProgram) (i r address n : ℕ) → place_at s i r address n ≡ None → places_below s i r address (n + 1) ≡ places_below s i r address n
places_same s i r address n e = rw (range_more 0 n n (omega arith), filter_map-append) (simp (e, append-nil))

-- a row that is no definition has no relocations, and so no places
pub no_relocs : (p : Program) (r : ℕ) → is_definition (row_at p r) ≡ false → relocs_of p r ≡ []
unfolding relocs_of
no_relocs p r e = ap (λ b. if b then object_relocs (object_at p (row_at p r).object) (row_at p r).local else []) e

pub no_places : (s : PlacedProgram) (i r address : ℕ) → is_definition (row_at s.program r) ≡ false → row_places s i r address ≡ []
no_places s i r address e = ap (λ (n : ℕ). places_below s i r address n) (ap length (no_relocs s.program r e))

-- those of the symbols of two lists
places_append : (s : PlacedProgram) (is js : List ℕ) (xs ys : List FieldPlace) → ArePlacesOf s is xs → ArePlacesOf s js ys → ArePlacesOf s (is ++ js) (xs ++ ys)
places_append s [] js xs ys hx hy =
    let P : List FieldPlace → Type 0 = λ zs. ArePlacesOf s js (zs ++ ys) in
    subst P (sym hx) hy
places_append s (i ∷ is) js xs ys hx hy =
    (hx.0, hx.1 ++ ys, ap (λ zs. zs ++ ys) hx.2 ∙ append_assoc hx.0 hx.1 ys, hx.3, places_append s is js hx.1 ys hx.4 hy)

pub adds_none : (s : PlacedProgram) (places : List FieldPlace) → AddsPlaces s [] places places
adds_none s places = record { more = []; added = sym (append-nil places); are = refl; inside = All-nil (EndsInside s) }

pub adds_one : (s : PlacedProgram) (i : ℕ) (old own : List FieldPlace) → AreOrdered (symbol_places s i) own → All (EndsInside s) own → AddsPlaces s (i ∷ []) old (old ++ own)
adds_one s i old own ordered inside = record { more = own; added = refl; are = (own, [], sym (append-nil own), ordered, refl); inside = inside }

pub adds_both : (s : PlacedProgram) (is js : List ℕ) (old mid new : List FieldPlace) → AddsPlaces s is old mid → AddsPlaces s js mid new → AddsPlaces s (is ++ js) old new
adds_both s is js old mid new first second = record {
  more = first.more ++ second.more;
  added = second.added ∙ (ap (λ xs. xs ++ second.more) first.added ∙ append_assoc old first.more second.more);
  are = places_append s is js first.more second.more first.are second.are;
  inside = All-append (EndsInside s) first.more second.more first.inside second.inside;
}

-- the indices of a section below one more
module _ (s : PlacedProgram) (n : ℕ) where
  abbrev pub indices_below : ℕ → List ℕ
  indices_below i = filter (is_at s n) (range_with_len 0 i)

  pub index_more : (i : ℕ) (b : Bool) → is_at s n i ≡ b → indices_below (i + 1) ≡ indices_below i ++ cond b (i ∷ []) []
  index_more i b e = rw (range_more 0 i i (omega arith), filter-append) (simp e)

  pub adds_here : (i : ℕ) (old mid new : List FieldPlace) → is_at s n i ≡ true → AddsPlaces s (indices_below i) old mid → AddsPlaces s (i ∷ []) mid new → AddsPlaces s (indices_below (i + 1)) old new
  adds_here i old mid new e first second =
      let P : List ℕ → Type 0 = λ is. AddsPlaces s is old new in
      subst P (sym (index_more i true e)) (adds_both s (indices_below i) (i ∷ []) old mid new first second)

  pub adds_not : (i : ℕ) (old new : List FieldPlace) → is_at s n i ≡ false → AddsPlaces s (indices_below i) old new → AddsPlaces s (indices_below (i + 1)) old new
  adds_not i old new e first =
      let P : List ℕ → Type 0 = λ is. AddsPlaces s is old new in
      subst P (sym (index_more i false e ∙ append-nil (indices_below i))) first

-- the places of all sections, one section after the other
pub all_places : (s : PlacedProgram) (a b c d : ℕ) (none one two three all : List FieldPlace) → none ≡ [] → a ≡ text → b ≡ rodata → c ≡ noptrdata → d ≡ written_data
    → AddsPlaces s (indices_in s a) none one → AddsPlaces s (indices_in s b) one two → AddsPlaces s (indices_in s c) two three → AddsPlaces s (indices_in s d) three all
    → AddsPlaces s (file_indices s) [] all
all_places s a b c d none one two three all empty ta tb tc td first second third last =
    let A : ℕ → Type 0 = λ n. AddsPlaces s (indices_in s n) none one in
    let N : List FieldPlace → Type 0 = λ xs. AddsPlaces s (indices_in s text) xs one in
    let B : ℕ → Type 0 = λ n. AddsPlaces s (indices_in s n) one two in
    let C : ℕ → Type 0 = λ n. AddsPlaces s (indices_in s n) two three in
    let D : ℕ → Type 0 = λ n. AddsPlaces s (indices_in s n) three all in
    let t = adds_both s (indices_in s text) (indices_in s rodata) [] one two (subst N empty (subst A ta first)) (subst B tb second) in
    let n = adds_both s (indices_in s text ++ indices_in s rodata) (indices_in s noptrdata) [] two three t (subst C tc third) in
    adds_both s (indices_in s text ++ indices_in s rodata ++ indices_in s noptrdata) (indices_in s written_data) [] three all n (subst D td last)

pub places_are : (s : PlacedProgram) (indices : List ℕ) (places : List FieldPlace) → AddsPlaces s indices [] places → ArePlacesOf s indices places
places_are s indices places added = let P : List FieldPlace → Type 0 = λ xs. ArePlacesOf s indices xs in subst P (sym added.added) added.are

pub places_inside : (s : PlacedProgram) (indices : List ℕ) (places : List FieldPlace) → AddsPlaces s indices [] places → All (EndsInside s) places
places_inside s indices places added = let P : List FieldPlace → Type 0 = λ xs. All (EndsInside s) xs in subst P (sym added.added) added.inside
