-- The fields of one symbol are apart.
use Rattle.std.proofs.Common.{◌≡◌, ◌∙◌, ℕ, ℤ, zero, suc, ◌+◌, ◌-◌, ◌<◌, ◌≤◌, List, [], ◌∷◌, ◌++◌, length, get_or, Bool, true, false, Option, Some, None, refl, ap, sym, subst, arith}
use Rattle.std.specs.Prelude.{◌&&◌, All, AllPairs, nat_lt}
use Rattle.std.specs.Option.{option_map, option_map_or, option_and_then}
use Rattle.std.specs.List.{IsDistinct}
use Rattle.std.proofs.lemmas.Bool.{cases_lt}
use Rattle.std.proofs.lemmas.List.Elements.{All-nil, All-push, All-weaker, All-get_or}
use Rattle.std.proofs.lemmas.List.Quantifiers.{all_pairs_push}
use Rattle.std.proofs.lemmas.List.Sorted.{All-permutation}
use Rattle.std.proofs.lemmas.Map.Keys.{apart_from_distinct, IsDistinct-from_apart, IsDistinct-IsPermutation}
use Rattle.glk_keys.specs.Programs.{Program}
use Rattle.glk_keys.specs.Relocations.{relocs_of, reloc_kind, reloc_target, no_reloc}
use Rattle.glk_obj.specs.Records.{Reloc, field_start}
use Rattle.glk_obj.specs.declared.kinds.RelocKind.{RelocKind}
use Rattle.glk_placing.specs.Programs.{PlacedProgram}
use Rattle.glk_reach.specs.Chosen.{key_relocs}
use Rattle.glk_reach.specs.RelocFaults.{shares_byte, is_field, reloc_in as key_reloc}
use Rattle.glk_reach.specs.RelocKinds.{is_field_kind}
use Rattle.glk_reloc.specs.Values.{IsFieldSize}
use Rattle.glk_reloc.specs.declared.fields.Field.{Field}
use Rattle.glk_fields.specs.declared.places.FieldPlace.{FieldPlace}
use Rattle.glk_fields.specs.Places.{place_of, place_at, places_below, row_places, reloc_in, AreOrdered}
use Rattle.glk_fields.specs.Values.{reloc_field, field_of, value_by, kept_target, stand_ins_of}
use Rattle.glk_fields.proofs.PlaceLists.{places_more, places_same}
use Rattle.glk_fields.proofs.Sound.{AreSound, value_field, size_of_field, share_none, apart_by}

-- what is known of a relocation that writes a field
pub record FieldFacts (s : PlacedProgram) (a : ℕ) (reloc : Reloc) (field : Field) : Type 0 where
  pub kind : RelocKind
  pub value : ℤ
  pub kind_is : reloc_kind s.program reloc ≡ Some kind
  pub kind_field : is_field_kind kind ≡ true
  pub field_is : field_of a reloc kind value ≡ field

pub field_facts : (s : PlacedProgram) (r a : ℕ) (reloc : Reloc) (field : Field) → reloc_field s r a reloc ≡ Some field → FieldFacts s a reloc field
unfolding reloc_field
field_facts s r a reloc field e = by_kind (reloc_kind s.program reloc) refl e
  where
    by_value : (kind : RelocKind) → reloc_kind s.program reloc ≡ Some kind → (o : Option ℤ) → value_by s r a reloc kind ≡ o
        → option_map (field_of a reloc kind) o ≡ Some field → FieldFacts s a reloc field
    by_value kind is None v e = absurd (let bad : None ≡ Some field = e in cc)
    by_value kind is (Some value) v e = record {
      kind = kind;
      value = value;
      kind_is = is;
      kind_field = value_field kind (kept_target s (reloc_target s.program r reloc)) (stand_ins_of s) reloc.add (a + field_start reloc) reloc.size value v;
      field_is = let same : Some (field_of a reloc kind value) ≡ Some field = e in cc;
    }

    by_kind : (o : Option RelocKind) → reloc_kind s.program reloc ≡ o
        → option_and_then (λ kind. option_map (field_of a reloc kind) (value_by s r a reloc kind)) o ≡ Some field → FieldFacts s a reloc field
    by_kind None is e = absurd (let bad : None ≡ Some field = e in cc)
    by_kind (Some kind) is e = by_value kind is (value_by s r a reloc kind) refl e

-- what is known of a place of row r
pub record IsOwnPlace (s : PlacedProgram) (i r a : ℕ) (f : FieldPlace) : Type 0 where
  pub inside : f.reloc < length (relocs_of s.program r)
  pub index : f.index ≡ i
  pub offset : f.offset ≡ field_start (reloc_in s r f.reloc)
  pub field : Field
  pub is : reloc_field s r a (reloc_in s r f.reloc) ≡ Some field

pub record PlacesTo (s : PlacedProgram) (i r a n : ℕ) (places : List FieldPlace) : Type 0 where
  pub own : All (IsOwnPlace s i r a) places
  pub below : All (λ (f : FieldPlace). f.reloc < n) places
  pub rising : AllPairs (λ (f g : FieldPlace). f.reloc < g.reloc) places

below_further : (n : ℕ) (xs : List FieldPlace) → All (λ (f : FieldPlace). f.reloc < n) xs → All (λ (f : FieldPlace). f.reloc < n + 1) xs
below_further n xs below = All-weaker (λ (f : FieldPlace). f.reloc < n) (λ (f : FieldPlace). f.reloc < n + 1) (λ f lt. omega (arith, lt)) xs below

module _ (s : PlacedProgram) (i r a : ℕ) where
  own_at : (j : ℕ) (f : FieldPlace) → j < length (relocs_of s.program r) → place_at s i r a j ≡ Some f → IsOwnPlace s i r a f × (f.reloc ≡ j)
  own_at j f lt e = cases (reloc_field s r a (reloc_in s r j)) refl e
    where
      cases : (o : Option Field) → reloc_field s r a (reloc_in s r j) ≡ o → option_map (λ (g : Field). place_of i j (reloc_in s r j)) o ≡ Some f
          → IsOwnPlace s i r a f × (f.reloc ≡ j)
      cases None x e = absurd (let bad : None ≡ Some f = e in cc)
      cases (Some g) x e =
          let same : place_of i j (reloc_in s r j) ≡ f = (let some : Some (place_of i j (reloc_in s r j)) ≡ Some f = e in cc) in
          let P : FieldPlace → Type 0 = λ h. IsOwnPlace s i r a h × (h.reloc ≡ j) in
          subst P same (record { inside = lt; index = refl; offset = refl; field = g; is = x }, refl)

  places_step : (n : ℕ) → n < length (relocs_of s.program r) → PlacesTo s i r a n (places_below s i r a n) → (o : Option FieldPlace) → place_at s i r a n ≡ o
      → PlacesTo s i r a (n + 1) (places_below s i r a (n + 1))
  places_step n le before None e =
      let Q : List FieldPlace → Type 0 = λ xs. PlacesTo s i r a (n + 1) xs in
      subst Q (sym (places_same s i r a n e)) (record { own = before.own; below = below_further n (places_below s i r a n) before.below; rising = before.rising })
  places_step n le before (Some f) e =
      let Q : List FieldPlace → Type 0 = λ xs. PlacesTo s i r a (n + 1) xs in
      let xs : List FieldPlace = places_below s i r a n in
      let here = own_at n f le e in
      let at : f.reloc ≡ n = here.1 in
      let last : f.reloc < n + 1 = omega (arith, at) in
      subst Q (sym (places_more s i r a n f e)) (record {
        own = All-push (IsOwnPlace s i r a) xs f before.own here.0;
        below = All-push (λ (g : FieldPlace). g.reloc < n + 1) xs f (below_further n xs before.below) last;
        rising = all_pairs_push (λ (g h : FieldPlace). g.reloc < h.reloc) xs f before.rising (λ m d lt. let low = before.below m d lt in omega (arith, low, at));
      })

  pub places_to : (n : ℕ) → n ≤ length (relocs_of s.program r) → PlacesTo s i r a n (places_below s i r a n)
  places_to zero le = record {
    own = All-nil (IsOwnPlace s i r a);
    below = All-nil (λ (f : FieldPlace). f.reloc < zero);
    rising = λ x y d less lt. absurd (omega (arith, lt));
  }
  places_to (suc n) le =
      let P : ℕ → Type 0 = λ m. PlacesTo s i r a m (places_below s i r a m) in
      let up : n + 1 ≡ suc n = omega arith in
      subst P up (places_step n (omega arith) (places_to n (omega arith)) (place_at s i r a n) refl)

and_flips : (x y : Bool) → (x && y) ≡ (y && x)
and_flips true true = refl
and_flips true false = refl
and_flips false true = refl
and_flips false false = refl

-- the fields at places of row r, whose relocations are those of key k and have no fault
module _ (s : PlacedProgram) (i r a k : ℕ) (are : key_relocs s.program k ≡ relocs_of s.program r) (sound : AreSound s.program k) where
  same_reloc : (j : ℕ) → key_reloc s.program k j ≡ reloc_in s r j
  same_reloc j = ap (λ relocs. get_or relocs j no_reloc) are

  own_field : (f : FieldPlace) → IsOwnPlace s i r a f → is_field s.program k f.reloc ≡ true
  own_field f own =
      let facts = field_facts s r a (reloc_in s r f.reloc) own.field own.is in
      let P : Reloc → Type 0 = λ reloc. option_map_or is_field_kind (reloc_kind s.program reloc) false ≡ true in
      let Q : Option RelocKind → Type 0 = λ o. option_map_or is_field_kind o false ≡ true in
      subst P (sym (same_reloc f.reloc)) (subst Q (sym facts.kind_is) facts.kind_field)

  own_inside : (f : FieldPlace) → IsOwnPlace s i r a f → f.reloc < length (key_relocs s.program k)
  own_inside f own = let same : length (key_relocs s.program k) ≡ length (relocs_of s.program r) = ap length are in omega (arith, own.inside, same)

  pub own_sized : (f : FieldPlace) → IsOwnPlace s i r a f → IsFieldSize (reloc_in s r f.reloc).size
  own_sized f own =
      let facts = field_facts s r a (reloc_in s r f.reloc) own.field own.is in
      let P : Reloc → Type 0 = λ reloc. reloc_kind s.program reloc ≡ Some facts.kind in
      let Q : Reloc → Type 0 = λ reloc. IsFieldSize reloc.size in
      subst Q (same_reloc f.reloc) (size_of_field s.program k f.reloc facts.kind sound (own_inside f own) (subst P (sym (same_reloc f.reloc)) facts.kind_is) facts.kind_field)

  -- two places share a byte
  abbrev shares : FieldPlace → FieldPlace → Bool
  shares f g = shares_byte (reloc_in s r f.reloc) (reloc_in s r g.reloc)

  share_flips : (f g : FieldPlace) → shares f g ≡ shares g f
  share_flips f g =
      and_flips (nat_lt (field_start (reloc_in s r f.reloc)) (field_start (reloc_in s r g.reloc) + (reloc_in s r g.reloc).size))
      (nat_lt (field_start (reloc_in s r g.reloc)) (field_start (reloc_in s r f.reloc) + (reloc_in s r f.reloc).size))

  earlier_shares_none : (f g : FieldPlace) → IsOwnPlace s i r a f → IsOwnPlace s i r a g → f.reloc < g.reloc → shares f g ≡ false
  earlier_shares_none f g own other less =
      let P : Reloc → Type 0 = λ reloc. shares_byte reloc (key_reloc s.program k g.reloc) ≡ false in
      let Q : Reloc → Type 0 = λ reloc. shares_byte (reloc_in s r f.reloc) reloc ≡ false in
      subst Q (same_reloc g.reloc) (subst P (same_reloc f.reloc)
      (share_none s.program k g.reloc f.reloc sound (own_inside g other) less (own_field g other) (own_field f own)))

  pub places_apart : (own : List FieldPlace) → AreOrdered (row_places s i r a) own
      → AllPairs (λ (f g : FieldPlace). f.offset + (reloc_in s r f.reloc).size ≤ g.offset) own
  places_apart own ordered x y d less lt =
      let places : List FieldPlace = row_places s i r a in
      let to = places_to s i r a (length (relocs_of s.program r)) (let e : length (relocs_of s.program r) ≤ length (relocs_of s.program r) = omega arith in e) in
      let distinct : IsDistinct shares places = IsDistinct-from_apart shares places (λ u v e before within.
      earlier_shares_none (get_or places u e) (get_or places v e) (to.own u e (omega arith)) (to.own v e within) (to.rising u v e before within)) in
      let all : IsDistinct shares own = IsDistinct-IsPermutation shares share_flips places own ordered.permutation distinct in
      let owned : All (IsOwnPlace s i r a) own = All-permutation (IsOwnPlace s i r a) places own ordered.permutation to.own in
      let f : FieldPlace = get_or own x d in
      let g : FieldPlace = get_or own y d in
      let here : IsOwnPlace s i r a f = owned x d (omega arith) in
      let there : IsOwnPlace s i r a g = owned y d lt in
      let order : f.offset ≤ g.offset = ordered.rising x y d (omega arith) lt in
      let none : shares f g ≡ false = apart_from_distinct shares own x y d all less lt in
      let P : ℕ → Type 0 = λ m. m ≤ field_start (reloc_in s r g.reloc) in
      let Q : ℕ → Type 0 = λ m. m + (reloc_in s r f.reloc).size ≤ g.offset in
      let R : ℕ → Type 0 = λ m. field_start (reloc_in s r f.reloc) + (reloc_in s r f.reloc).size ≤ m in
      let low : field_start (reloc_in s r f.reloc) ≤ field_start (reloc_in s r g.reloc) = omega (arith, order, here.offset, there.offset) in
      subst Q (sym here.offset) (subst R (sym there.offset) (apart_by (reloc_in s r f.reloc) (reloc_in s r g.reloc) none (own_sized g there) low))
