-- The calls that were met, and the tests that find them.
use Rattle.std.proofs.Common.{◌≡◌, ◌↔◌, ◌<◌, ℕ, zero, suc, Bool, true, false, cond, List, [], ◌∷◌, length, Some, None, Option, ◌⊎◌, inl, inr, refl, sym, ap, ◌∙◌, subst, arith}
use Rattle.std.specs.Prelude.{◌==◌, ◌&&◌, ◌||◌, IfSome, MatchOption, IsTrue}
use Rattle.std.specs.List.{Contains, list_any}
use Rattle.std.specs.Option.{option_map_or}
use Rattle.std.specs.Str.{bytes_eq}
use Rattle.std.proofs.lemmas.Bool.{cases_Bool, both_ways}
use Rattle.std.proofs.lemmas.Bool.Decides.{nat_tests}
use Rattle.std.proofs.lemmas.Option.{same_Some, slice_get_within}
use Rattle.std.proofs.lemmas.Slice.Eq.{bytes_eq-Decides}
use Rattle.glk_closure.specs.declared.marks.WaitingRow.{WaitingRow}
use Rattle.glk_closure.specs.Graph.{Graph}
use Rattle.glk_closure.specs.declared.marks.Marks.{Marks}
use Rattle.glk_closure.specs.Facts.{FactsView, HaveRows, AreLeastFacts, has_fact, is_sig, is_named, is_reflect, met_calls}
use Rattle.glk_closure.specs.Marks.{called_at, Holds, Covers}
use Rattle.glk_closure.specs.Reach.{Fact, Kept, Iface, Sig, Named, Reflect, Reach}
use Rattle.glk_closure.specs.Rows.{Stands}
use Rattle.std.specs.HashMap.{HashMap, get}
use Rattle.glk_closure.specs.declared.name.Name.{Name}
use Rattle.glk_closure.specs.declared.name.Signature.{Signature}
use Rattle.glk_closure.specs.CallTable.{name_eq, signature_eq, IsSigRow, Fits}
use Rattle.glk_closure.proofs.CallLemmas.{among, row_of}
use Rattle.glk_closure.proofs.Derivations.{Contains-nil, Contains-head, Contains-cons_cases}

Contains-tail : (f g : Fact) (gs : List Fact) → Contains gs f → Contains (g ∷ gs) f
Contains-tail f g gs c = let inside : c.0 < length gs = c.1 in (suc c.0, omega arith, c.2)

-- one more row
in_more : (b : Bool) (g : Fact) (later : List Fact) (f : Fact) → Contains later f → Contains (cond b (g ∷ later) later) f
in_more true g later f h = Contains-tail f g later h
in_more false g later f h = h

pub met_in : (calls : List Fact) (rows : List WaitingRow) (r : ℕ) (f : Fact) → Stands calls r f → called_at rows r ≡ true → Contains (met_calls calls rows) f
met_in [] rows r f h c = absurd (let bad : None ≡ Some f = h in cc)
met_in (g ∷ gs) [] r f h c = absurd (let bad : false ≡ true = c in cc)
met_in (g ∷ gs) (row ∷ rows) zero f h c =
    let same : g ≡ f = same_Some g f h in
    let is : row.called ≡ true = c in
    let P : Fact → Type 0 = λ x. Contains (met_calls (g ∷ gs) (row ∷ rows)) x in
    subst P same (rw is (Contains-head g (met_calls gs rows)))
met_in (g ∷ gs) (row ∷ rows) (suc r) f h c = in_more row.called g (met_calls gs rows) f (met_in gs rows r f h c)

-- the row of a call that was met
abbrev MetRow : List Fact → List WaitingRow → Fact → Type 0
MetRow calls rows f = (r : ℕ) × Stands calls r f × (called_at rows r ≡ true)

later_row : (g : Fact) (gs : List Fact) (row : WaitingRow) (rows : List WaitingRow) (f : Fact) → MetRow gs rows f → MetRow (g ∷ gs) (row ∷ rows) f
later_row g gs row rows f m = (suc m.0, m.1, m.2)

mutual_out : (b : Bool) (g : Fact) (gs : List Fact) (row : WaitingRow) (rows : List WaitingRow) (f : Fact) → row.called ≡ b → (Contains (met_calls gs rows) f → MetRow gs rows f) → Contains (cond b (g ∷ met_calls gs rows) (met_calls gs rows)) f → MetRow (g ∷ gs) (row ∷ rows) f
mutual_out true g gs row rows f is out h = elim (Contains-cons_cases g (met_calls gs rows) f h) [
  | inl same ↦ (zero, ap Some same, is)
  | inr later ↦ later_row g gs row rows f (out later)
]
mutual_out false g gs row rows f is out h = later_row g gs row rows f (out h)

pub met_out : (calls : List Fact) (rows : List WaitingRow) (f : Fact) → Contains (met_calls calls rows) f → MetRow calls rows f
met_out [] rows f h = absurd (Contains-nil f h)
met_out (g ∷ gs) [] f h = absurd (Contains-nil f h)
met_out (g ∷ gs) (row ∷ rows) f h = mutual_out row.called g gs row rows f refl (met_out gs rows f) h

-- A test that one fact passes.

pub record IsTestOf (test : Fact → Bool) (f : Fact) : Type 0 where
  pub only : (g : Fact) → test g ≡ true → g ≡ f
  pub passes : test f ≡ true

both_true : (a b : Bool) → (a && b) ≡ true → (a ≡ true) × (b ≡ true)
both_true true b e = (refl, e)
both_true false b e = absurd (let bad : false ≡ true = e in cc)

both_yes : (a b : Bool) → a ≡ true → b ≡ true → (a && b) ≡ true
both_yes a b x y = rw (x, y) refl

same_bytes : (n m : List ℕ) → bytes_eq n m ≡ true → m ≡ n
same_bytes n m e = sym ((bytes_eq-Decides n m).0 e)

sig_only : (n : List ℕ) (t : ℕ) (g : Fact) → is_sig n t g ≡ true → g ≡ Sig n t
sig_only n t (Kept k) e = absurd (let bad : false ≡ true = e in cc)
sig_only n t (Iface k) e = absurd (let bad : false ≡ true = e in cc)
sig_only n t (Sig m u) e =
    let h = both_true (bytes_eq n m) (t == u) e in
    let a : m ≡ n = same_bytes n m h.0 in
    let b : u ≡ t = grind (arith, nat_tests, h.1) in
    cc
sig_only n t (Named m) e = absurd (let bad : false ≡ true = e in cc)
sig_only n t Reflect e = absurd (let bad : false ≡ true = e in cc)

equal_true : (t : ℕ) → (t == t) ≡ true
equal_true t = grind (arith, nat_tests)

pub sig_test : (n : List ℕ) (t : ℕ) → IsTestOf (is_sig n t) (Sig n t)
sig_test n t = record { only = sig_only n t; passes = both_yes (bytes_eq n n) (t == t) ((bytes_eq-Decides n n).1 refl) (equal_true t) }

named_only : (n : List ℕ) (g : Fact) → is_named n g ≡ true → g ≡ Named n
named_only n (Kept k) e = absurd (let bad : false ≡ true = e in cc)
named_only n (Iface k) e = absurd (let bad : false ≡ true = e in cc)
named_only n (Sig m u) e = absurd (let bad : false ≡ true = e in cc)
named_only n (Named m) e = ap Named (same_bytes n m e)
named_only n Reflect e = absurd (let bad : false ≡ true = e in cc)

pub named_test : (n : List ℕ) → IsTestOf (is_named n) (Named n)
named_test n = record { only = named_only n; passes = (bytes_eq-Decides n n).1 refl }

reflect_only : (g : Fact) → is_reflect g ≡ true → g ≡ Reflect
reflect_only (Kept k) e = absurd (let bad : false ≡ true = e in cc)
reflect_only (Iface k) e = absurd (let bad : false ≡ true = e in cc)
reflect_only (Sig m u) e = absurd (let bad : false ≡ true = e in cc)
reflect_only (Named m) e = absurd (let bad : false ≡ true = e in cc)
reflect_only Reflect e = refl

pub reflect_test : IsTestOf is_reflect Reflect
reflect_test = record { only = reflect_only; passes = refl }

module _ (test : Fact → Bool) (f : Fact) (is : IsTestOf test f) where
  any_head : (b : Bool) (g : Fact) (gs : List Fact) → test g ≡ b → (list_any test gs ≡ true → Contains gs f) → (b || list_any test gs) ≡ true → Contains (g ∷ gs) f
  any_head true g gs e rest h = let P : Fact → Type 0 = λ x. Contains (g ∷ gs) x in subst P (is.only g e) (Contains-head g gs)
  any_head false g gs e rest h = Contains-tail f g gs (rest h)

  pub any_in : (gs : List Fact) → list_any test gs ≡ true → Contains gs f
  any_in [] h = absurd (let bad : false ≡ true = h in cc)
  any_in (g ∷ gs) h = any_head (test g) g gs refl (any_in gs) h

  or_true : (b : Bool) → (b || true) ≡ true
  or_true true = refl
  or_true false = refl

  pub in_any : (gs : List Fact) → Contains gs f → list_any test gs ≡ true
  in_any [] h = absurd (Contains-nil f h)
  in_any (g ∷ gs) h = elim (Contains-cons_cases g gs f h) [
    | inl same ↦ let e : test g ≡ true = ap test same ∙ is.passes in ap (λ b. b || list_any test gs) e
    | inr later ↦ ap (λ b. test g || b) (in_any gs later) ∙ or_true (test g)
  ]

  -- whether the call was met, by its row
  module _ (calls : List Fact) (rows : List WaitingRow) (have : HaveRows calls rows) where
    pub no_row : (Contains calls f → ⊥) → list_any test (met_calls calls rows) ≡ false
    no_row none = elim (cases_Bool (list_any test (met_calls calls rows))) [
      | inr none_met ↦ none_met
      | inl met ↦ absurd (let m = met_out calls rows f (any_in (met_calls calls rows) met) in none (among calls m.0 f m.1))
    ]

    at_row : (r : ℕ) (b : Bool) → Stands calls r f → called_at rows r ≡ b → b ≡ list_any test (met_calls calls rows)
    at_row r true h c = sym (in_any (met_calls calls rows) (met_in calls rows r f h c))
    at_row r false h c = elim (cases_Bool (list_any test (met_calls calls rows))) [
      | inr none_met ↦ sym none_met
      | inl met ↦ absurd (
          let m = met_out calls rows f (any_in (met_calls calls rows) met) in
          let P : ℕ → Type 0 = λ x. called_at rows x ≡ true in
          let bad : false ≡ true = sym c ∙ subst P (have.once m.0 r f m.1 h) m.2 in
          cc)
    ]

    pub by_row : (row : Option ℕ) → MatchOption row (Contains calls f → ⊥) (λ r. Stands calls r f) → option_map_or (called_at rows) row false ≡ list_any test (met_calls calls rows)
    by_row None none = sym (no_row none)
    by_row (Some r) h = at_row r (called_at rows r) h refl

    pub row_inside : (row : Option ℕ) → MatchOption row (Contains calls f → ⊥) (λ r. Stands calls r f) → IfSome row (λ r. r < length rows)
    row_inside None none = tt
    row_inside (Some r) h = let e = have.rows_long in let w = slice_get_within calls r f h in omega arith

-- The rows of calls, by the maps that find them.

module _ {S T : Type 0} (facts : List Fact) (names : HashMap Name ℕ S) (by_type : HashMap Signature ℕ T) (row : Option ℕ) (fits : Fits facts names by_type row) where
  pub name_row : (q : Name) (o : Option ℕ) → o ≡ get name_eq names q → MatchOption o (Contains facts (Named q.bytes.now) → ⊥) (λ r. Stands facts r (Named q.bytes.now))
  name_row q None e = λ c. let at = row_of facts (Named q.bytes.now) c in let bad : None ≡ Some at.0 = e ∙ (fits.named q at.0).0 at.1 in absurd cc
  name_row q (Some r) e = (fits.named q r).1 (sym e)

  pub no_sig_row : (q : Name) (of : ℕ) → None ≡ get name_eq names q → Contains facts (Sig q.bytes.now of) → ⊥
  no_sig_row q of e c =
      let at = row_of facts (Sig q.bytes.now of) c in
      name_row q None e (fits.beside q.bytes.now of at.0 at.1)

  pub sig_row : (n : List ℕ) (q : Signature) → Stands facts q.named (Named n) → (o : Option ℕ) → o ≡ get signature_eq by_type q → MatchOption o (Contains facts (Sig n q.of) → ⊥) (λ r. Stands facts r (Sig n q.of))
  sig_row n q stands None e = λ c. let at = row_of facts (Sig n q.of) c in let bad : None ≡ Some at.0 = e ∙ (fits.sigs q at.0).0 (n, stands, at.1) in absurd cc
  sig_row n q stands (Some r) e =
      let s = (fits.sigs q r).1 (sym e) in
      let same : Named s.0 ≡ Named n = same_Some (Named s.0) (Named n) (sym s.1 ∙ stands) in
      let bytes : s.0 ≡ n = cc in
      let P : List ℕ → Type 0 = λ m. Stands facts r (Sig m q.of) in
      subst P bytes s.2

-- The facts that a search has marked.

has_holds : (s : FactsView) (m : Marks) → s.kept ≡ m.kept → s.iface ≡ m.iface → s.calls ≡ met_calls m.calls m.rows.items → (f : Fact) → has_fact s f ≡ true → Holds m f
has_holds s m kept iface calls (Kept k) h = rw kept at h
has_holds s m kept iface calls (Iface k) h = rw iface at h
has_holds s m kept iface calls (Sig n t) h = met_out m.calls m.rows.items (Sig n t) (any_in (is_sig n t) (Sig n t) (sig_test n t) (met_calls m.calls m.rows.items) (rw calls at h))
has_holds s m kept iface calls (Named n) h = met_out m.calls m.rows.items (Named n) (any_in (is_named n) (Named n) (named_test n) (met_calls m.calls m.rows.items) (rw calls at h))
has_holds s m kept iface calls Reflect h = met_out m.calls m.rows.items Reflect (any_in is_reflect Reflect reflect_test (met_calls m.calls m.rows.items) (rw calls at h))

holds_has : (s : FactsView) (m : Marks) → s.kept ≡ m.kept → s.iface ≡ m.iface → s.calls ≡ met_calls m.calls m.rows.items → (f : Fact) → Holds m f → has_fact s f ≡ true
holds_has s m kept iface calls (Kept k) h = rw kept h
holds_has s m kept iface calls (Iface k) h = rw iface h
holds_has s m kept iface calls (Sig n t) h = rw calls (in_any (is_sig n t) (Sig n t) (sig_test n t) (met_calls m.calls m.rows.items) (met_in m.calls m.rows.items h.0 (Sig n t) h.1 h.2))
holds_has s m kept iface calls (Named n) h = rw calls (in_any (is_named n) (Named n) (named_test n) (met_calls m.calls m.rows.items) (met_in m.calls m.rows.items h.0 (Named n) h.1 h.2))
holds_has s m kept iface calls Reflect h = rw calls (in_any is_reflect Reflect reflect_test (met_calls m.calls m.rows.items) (met_in m.calls m.rows.items h.0 Reflect h.1 h.2))

pub least_facts : (g : Graph) (s : FactsView) (m : Marks) → s.kept ≡ m.kept → s.iface ≡ m.iface → s.calls ≡ met_calls m.calls m.rows.items → ((f : Fact) → Holds m f ↔ Reach g f) → Covers m g.keys → AreLeastFacts g s
least_facts g s m kept iface calls least covers = record {
  exact = λ f. (λ h. (least f).0 (has_holds s m kept iface calls f h), λ r. holds_has s m kept iface calls f ((least f).1 r));
  kept_keys = ap length kept ∙ covers.kept;
  iface_keys = ap length iface ∙ covers.iface;
}

pub have_rows : (m : Marks) (keys : ℕ) → Covers m keys → HaveRows m.calls m.rows.items
have_rows m keys covers = record { rows_long = covers.rows; once = covers.once }
