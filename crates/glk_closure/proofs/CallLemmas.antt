-- One call more: it has the next row, and the maps find it.
use Rattle.std.proofs.Common.{◌≡◌, ℕ, Bool, true, false, cond, List, [], ◌∷◌, ◌++◌, Some, None, Option, length, ◌⊎◌, inl, inr, refl, sym, ap, ◌∙◌, subst, arith}
use Rattle.std.specs.List.{Contains}
use Rattle.std.specs.HashMap.{HashMap, get}
use Rattle.std.specs.Map.{lookup}
use Rattle.std.proofs.lemmas.Bool.{cases_lt, cases_Bool}
use Rattle.std.proofs.lemmas.Option.{slice_get_within, slice_get_read, same_Some}
use Rattle.std.proofs.lemmas.List.{map-append, length-map}
use Rattle.std.proofs.lemmas.List.Elements.{Contains-append_left}
use Rattle.std.proofs.lemmas.Slice.Eq.{bytes_eq-Decides}
use Rattle.glk_closure.specs.declared.call.Call.{Call}
use Rattle.glk_closure.specs.declared.name.Name.{Name}
use Rattle.glk_closure.specs.declared.name.Signature.{Signature}
use Rattle.glk_closure.specs.Reach.{Fact, Sig, Named, Reflect}
use Rattle.glk_closure.specs.Rows.{Stands, Numbers}
use Rattle.glk_closure.specs.CallTable.{fact_of, facts_of, name_eq, signature_eq, IsSigRow, Fits}
use Rattle.glk_closure.proofs.Parts.{get_append, get_front, get_last, get_at_end, get_or_some}

-- equal names have equal bytes
pub name_same : (x y : Name) → name_eq x y ≡ true → x.bytes.now ≡ y.bytes.now
name_same x y is = let d = bytes_eq-Decides x.bytes.now y.bytes.now in d.0 is

pub name_yes : (x y : Name) → x.bytes.now ≡ y.bytes.now → name_eq x y ≡ true
name_yes x y is = let d = bytes_eq-Decides x.bytes.now y.bytes.now in d.1 is

pub signature_same : (x y : Signature) → signature_eq x y ≡ true → (x.named ≡ y.named) × (x.of ≡ y.of)
signature_same x y is = (grind (arith, is), grind (arith, is))

pub signature_yes : (x y : Signature) → x.named ≡ y.named → x.of ≡ y.of → signature_eq x y ≡ true
signature_yes x y e f = grind (arith, e, f)

pub pick_true : {X : Type 0} (b : Bool) (x y : X) → b ≡ true → cond b x y ≡ x
pick_true b x y is = rw is refl

pub pick_false : {X : Type 0} (b : Bool) (x y : X) → b ≡ false → cond b x y ≡ y
pick_false b x y is = rw is refl

-- what is among the facts has a row, and what has a row is among them
pub row_of : (facts : List Fact) (f : Fact) → Contains facts f → (r : ℕ) × Stands facts r f
row_of facts f c = (c.0, slice_get_read facts (length facts) c.0 f refl c.1 (sym c.2))

pub among : (facts : List Fact) (r : ℕ) (f : Fact) → Stands facts r f → Contains facts f
among facts r f h = (r, slice_get_within facts r f h, get_or_some facts r f f h)

-- a row of the longer list is an old one, or the last
pub row_back : (facts : List Fact) (f e : Fact) (r : ℕ) → Stands (facts ++ f ∷ []) r e → Stands facts r e ⊎ ((r ≡ length facts) × (f ≡ e))
row_back facts f e r h = elim (cases_lt r (length facts)) [
  | inl l ↦ inl (get_front facts (f ∷ []) r e l h)
  | inr ge ↦ inr (get_last facts f r e ge h)
]

pub facts_push : (calls more before : List Call) (x : Call) → more ≡ before ++ x ∷ [] → before ≡ calls → facts_of more ≡ facts_of calls ++ fact_of x ∷ []
facts_push calls more before x pushed same = ap facts_of pushed ∙ ap (λ (l : List Call). facts_of (l ++ x ∷ [])) same ∙ map-append fact_of calls (x ∷ [])

pub no_facts : {S T : Type 0} (names : HashMap Name ℕ S) (by_type : HashMap Signature ℕ T) → names.entries ≡ [] → by_type.entries ≡ [] → Fits [] names by_type None
no_facts names by_type a b = record {
  named = λ q r. (λ h. absurd (let bad : None ≡ Some (Named q.bytes.now) = h in cc), λ h. absurd (let bad : None ≡ Some r = rw a at h in cc));
  sigs = λ q r. (λ h. absurd (let bad : None ≡ Some (Named h.0) = h.1 in cc), λ h. absurd (let bad : None ≡ Some r = rw b at h in cc));
  beside = λ n t r h. absurd (let bad : None ≡ Some (Sig n t) = h in cc);
  reflection = λ r. (λ h. absurd (let bad : None ≡ Some Reflect = h in cc), λ h. absurd (let bad : None ≡ Some r = h in cc));
}

pub facts_length : (calls : List Call) (n r : ℕ) → length calls ≡ n → r ≡ n → r ≡ length (facts_of calls)
facts_length calls n r e is = let m = length-map calls fact_of in omega (arith, m)

-- the maps are as they were
pub fits_unchanged : {S T : Type 0} (facts new : List Fact) (names names' : HashMap Name ℕ S) (by_type by_type' : HashMap Signature ℕ T) (row : Option ℕ) → new ≡ facts → names'.entries ≡ names.entries → by_type'.entries ≡ by_type.entries → Fits facts names by_type row → Fits new names' by_type' row
fits_unchanged facts new names names' by_type by_type' row is e f fits =
    let P : List Fact → Type 0 = λ l. Fits l names' by_type' row in
    subst P (sym is) (record {
      named = λ q r. let s : get name_eq names' q ≡ get name_eq names q = ap (λ es. lookup (name_eq q) es) e in (λ h. s ∙ (fits.named q r).0 h, λ h. (fits.named q r).1 (sym s ∙ h));
      sigs = λ q r. let s : get signature_eq by_type' q ≡ get signature_eq by_type q = ap (λ es. lookup (signature_eq q) es) f in (λ h. s ∙ (fits.sigs q r).0 h, λ h. (fits.sigs q r).1 (sym s ∙ h));
      beside = fits.beside;
      reflection = fits.reflection;
    })

-- a call that has a row already
pub numbers_old : (facts : List Fact) (f : Fact) (r : ℕ) → Stands facts r f → Numbers facts facts f r
numbers_old facts f r h = record { stands = h; cases = inl refl }

-- a new one
pub numbers_new : (old new : List Fact) (f : Fact) (r : ℕ) → new ≡ old ++ f ∷ [] → r ≡ length old → (Contains old f → ⊥) → Numbers old new f r
numbers_new old new f r e is fresh =
    let P : ℕ → Type 0 = λ i. Stands (old ++ f ∷ []) i f in
    record { stands = rw e (subst P (sym is) (get_at_end old f)); cases = inr (e, fresh) }

-- a new name
module _ {S T : Type 0} (facts : List Fact) (names after : HashMap Name ℕ S) (by_type : HashMap Signature ℕ T) (row : Option ℕ) (q0 : Name) (r0 : ℕ) (fits : Fits facts names by_type row) (none : None ≡ get name_eq names q0) (next : r0 ≡ length facts) (updates : (q : Name) → get name_eq after q ≡ cond (name_eq q0 q) (Some r0) (get name_eq names q)) where
  f0 : Fact
  f0 = Named q0.bytes.now

  pub fresh_name : Contains facts (Named q0.bytes.now) → ⊥
  fresh_name c = let at = row_of facts (Named q0.bytes.now) c in let bad : None ≡ Some at.0 = none ∙ (fits.named q0 at.0).0 at.1 in absurd cc

  found : (q : Name) (r : ℕ) → Stands (facts ++ Named q0.bytes.now ∷ []) r (Named q.bytes.now) → get name_eq after q ≡ Some r
  found q r h = elim (row_back facts (Named q0.bytes.now) (Named q.bytes.now) r h) [
    | inl old ↦ elim (cases_Bool (name_eq q0 q)) [
      | inl t ↦ absurd (fresh_name (let e = name_same q0 q t in let P : List ℕ → Type 0 = λ n. Contains facts (Named n) in subst P (sym e) (among facts r (Named q.bytes.now) old)))
      | inr n ↦ updates q ∙ pick_false (name_eq q0 q) (Some r0) (get name_eq names q) n ∙ (fits.named q r).0 old
    ]
    | inr e ↦ let same : q0.bytes.now ≡ q.bytes.now = (let x : Named q0.bytes.now ≡ Named q.bytes.now = e.1 in cc) in
        updates q ∙ pick_true (name_eq q0 q) (Some r0) (get name_eq names q) (name_yes q0 q same) ∙ ap Some (next ∙ sym e.0)
  ]

  finds : (q : Name) (r : ℕ) → get name_eq after q ≡ Some r → Stands (facts ++ Named q0.bytes.now ∷ []) r (Named q.bytes.now)
  finds q r h = elim (cases_Bool (name_eq q0 q)) [
    | inl t ↦
        let is : Some r0 ≡ Some r = sym (pick_true (name_eq q0 q) (Some r0) (get name_eq names q) t) ∙ sym (updates q) ∙ h in
        let at : length facts ≡ r = sym next ∙ same_Some r0 r is in
        let P : ℕ → Type 0 = λ i. Stands (facts ++ Named q0.bytes.now ∷ []) i (Named q0.bytes.now) in
        let Q : List ℕ → Type 0 = λ n. Stands (facts ++ Named q0.bytes.now ∷ []) r (Named n) in
        subst Q (name_same q0 q t) (subst P at (get_at_end facts (Named q0.bytes.now)))
    | inr n ↦ get_append facts (Named q0.bytes.now ∷ []) r (Named q.bytes.now) ((fits.named q r).1 (sym (pick_false (name_eq q0 q) (Some r0) (get name_eq names q) n) ∙ sym (updates q) ∙ h))
  ]

  sig_found : (q : Signature) (r : ℕ) → IsSigRow (facts ++ Named q0.bytes.now ∷ []) q.named q.of r → IsSigRow facts q.named q.of r
  sig_found q r h = elim (row_back facts (Named q0.bytes.now) (Sig h.0 q.of) r h.2) [
    | inl sig ↦ elim (row_back facts (Named q0.bytes.now) (Named h.0) q.named h.1) [
      | inl name ↦ (h.0, name, sig)
      | inr e ↦ absurd (fresh_name (rw e.1 (fits.beside h.0 q.of r sig)))
    ]
    | inr e ↦ absurd (let bad : Named q0.bytes.now ≡ Sig h.0 q.of = e.1 in cc)
  ]

  pub fits_name : (new : List Fact) → new ≡ facts ++ Named q0.bytes.now ∷ [] → Fits new after by_type row
  fits_name new is = let P : List Fact → Type 0 = λ l. Fits l after by_type row in subst P (sym is) (record {
    named = λ q r. (found q r, finds q r);
    sigs = λ q r. (λ h. (fits.sigs q r).0 (sig_found q r h), λ h. let s = (fits.sigs q r).1 h in (s.0, get_append facts (Named q0.bytes.now ∷ []) q.named (Named s.0) s.1, get_append facts (Named q0.bytes.now ∷ []) r (Sig s.0 q.of) s.2));
    beside = λ n t r h. elim (row_back facts (Named q0.bytes.now) (Sig n t) r h) [
      | inl old ↦ Contains-append_left facts (Named q0.bytes.now ∷ []) (Named n) (fits.beside n t r old)
      | inr e ↦ absurd (let bad : Named q0.bytes.now ≡ Sig n t = e.1 in cc)
    ];
    reflection = λ r. (
      λ h. elim (row_back facts (Named q0.bytes.now) Reflect r h) [
        | inl old ↦ (fits.reflection r).0 old
        | inr e ↦ absurd (let bad : Named q0.bytes.now ≡ Reflect = e.1 in cc)
      ],
      λ h. get_append facts (Named q0.bytes.now ∷ []) r Reflect ((fits.reflection r).1 h),
    );
  })

-- a new name and type; the name has a row
module _ {S T : Type 0} (facts : List Fact) (names : HashMap Name ℕ S) (by_type after : HashMap Signature ℕ T) (row : Option ℕ) (name : Name) (q0 : Signature) (r0 : ℕ) (fits : Fits facts names by_type row) (stands : Stands facts q0.named (Named name.bytes.now)) (none : None ≡ get signature_eq by_type q0) (next : r0 ≡ length facts) (updates : (q : Signature) → get signature_eq after q ≡ cond (signature_eq q0 q) (Some r0) (get signature_eq by_type q)) where
  pub fresh_sig : Contains facts (Sig name.bytes.now q0.of) → ⊥
  fresh_sig c = let at = row_of facts (Sig name.bytes.now q0.of) c in let bad : None ≡ Some at.0 = none ∙ (fits.sigs q0 at.0).0 (name.bytes.now, stands, at.1) in absurd cc

  -- the name has one row
  one_row : (r : ℕ) → Stands facts r (Named name.bytes.now) → q0.named ≡ r
  one_row r h = same_Some q0.named r (sym ((fits.named name q0.named).0 stands) ∙ (fits.named name r).0 h)

  sig_in : (q : Signature) (r : ℕ) → IsSigRow (facts ++ Sig name.bytes.now q0.of ∷ []) q.named q.of r → get signature_eq after q ≡ Some r
  sig_in q r h = elim (row_back facts (Sig name.bytes.now q0.of) (Named h.0) q.named h.1) [
    | inr e ↦ absurd (let bad : Sig name.bytes.now q0.of ≡ Named h.0 = e.1 in cc)
    | inl n ↦ elim (row_back facts (Sig name.bytes.now q0.of) (Sig h.0 q.of) r h.2) [
      | inl s ↦ elim (cases_Bool (signature_eq q0 q)) [
        | inl t ↦
            let e = signature_same q0 q t in
            let there : IsSigRow facts q0.named q0.of r = (h.0, rw e.0 n, rw e.1 s) in
            let bad : None ≡ Some r = none ∙ (fits.sigs q0 r).0 there in absurd cc
        | inr f ↦ updates q ∙ pick_false (signature_eq q0 q) (Some r0) (get signature_eq by_type q) f ∙ (fits.sigs q r).0 (h.0, n, s)
      ]
      | inr e ↦
          let is : Sig name.bytes.now q0.of ≡ Sig h.0 q.of = e.1 in
          let bytes : name.bytes.now ≡ h.0 = cc in
          let of : q0.of ≡ q.of = cc in
          let at : q0.named ≡ q.named = one_row q.named (rw bytes n) in
          updates q ∙ pick_true (signature_eq q0 q) (Some r0) (get signature_eq by_type q) (signature_yes q0 q at of) ∙ ap Some (next ∙ sym e.0)
    ]
  ]

  sig_out : (q : Signature) (r : ℕ) → get signature_eq after q ≡ Some r → IsSigRow (facts ++ Sig name.bytes.now q0.of ∷ []) q.named q.of r
  sig_out q r h = elim (cases_Bool (signature_eq q0 q)) [
    | inl t ↦
        let e = signature_same q0 q t in
        let is : Some r0 ≡ Some r = sym (pick_true (signature_eq q0 q) (Some r0) (get signature_eq by_type q) t) ∙ sym (updates q) ∙ h in
        let at : length facts ≡ r = sym next ∙ same_Some r0 r is in
        let A : ℕ → Type 0 = λ i. Stands (facts ++ Sig name.bytes.now q0.of ∷ []) i (Sig name.bytes.now q0.of) in
        let B : ℕ → Type 0 = λ t. Stands (facts ++ Sig name.bytes.now q0.of ∷ []) r (Sig name.bytes.now t) in
        let C : ℕ → Type 0 = λ i. Stands (facts ++ Sig name.bytes.now q0.of ∷ []) i (Named name.bytes.now) in
        (name.bytes.now, subst C e.0 (get_append facts (Sig name.bytes.now q0.of ∷ []) q0.named (Named name.bytes.now) stands), subst B e.1 (subst A at (get_at_end facts (Sig name.bytes.now q0.of))))
    | inr f ↦
        let s = (fits.sigs q r).1 (sym (pick_false (signature_eq q0 q) (Some r0) (get signature_eq by_type q) f) ∙ sym (updates q) ∙ h) in
        (s.0, get_append facts (Sig name.bytes.now q0.of ∷ []) q.named (Named s.0) s.1, get_append facts (Sig name.bytes.now q0.of ∷ []) r (Sig s.0 q.of) s.2)
  ]

  pub fits_sig : (new : List Fact) → new ≡ facts ++ Sig name.bytes.now q0.of ∷ [] → Fits new names after row
  fits_sig new is = let P : List Fact → Type 0 = λ l. Fits l names after row in subst P (sym is) (record {
    named = λ q r. (
      λ h. elim (row_back facts (Sig name.bytes.now q0.of) (Named q.bytes.now) r h) [
        | inl old ↦ (fits.named q r).0 old
        | inr e ↦ absurd (let bad : Sig name.bytes.now q0.of ≡ Named q.bytes.now = e.1 in cc)
      ],
      λ h. get_append facts (Sig name.bytes.now q0.of ∷ []) r (Named q.bytes.now) ((fits.named q r).1 h),
    );
    sigs = λ q r. (sig_in q r, sig_out q r);
    beside = λ n t r h. elim (row_back facts (Sig name.bytes.now q0.of) (Sig n t) r h) [
      | inl old ↦ Contains-append_left facts (Sig name.bytes.now q0.of ∷ []) (Named n) (fits.beside n t r old)
      | inr e ↦
          let x : Sig name.bytes.now q0.of ≡ Sig n t = e.1 in
          let bytes : name.bytes.now ≡ n = cc in
          let P : List ℕ → Type 0 = λ m. Contains (facts ++ Sig name.bytes.now q0.of ∷ []) (Named m) in
          subst P bytes (Contains-append_left facts (Sig name.bytes.now q0.of ∷ []) (Named name.bytes.now) (among facts q0.named (Named name.bytes.now) stands))
    ];
    reflection = λ r. (
      λ h. elim (row_back facts (Sig name.bytes.now q0.of) Reflect r h) [
        | inl old ↦ (fits.reflection r).0 old
        | inr e ↦ absurd (let bad : Sig name.bytes.now q0.of ≡ Reflect = e.1 in cc)
      ],
      λ h. get_append facts (Sig name.bytes.now q0.of ∷ []) r Reflect ((fits.reflection r).1 h),
    );
  })

-- reflection is new
module _ {S T : Type 0} (facts : List Fact) (names : HashMap Name ℕ S) (by_type : HashMap Signature ℕ T) (row : Option ℕ) (r0 : ℕ) (fits : Fits facts names by_type row) (none : row ≡ None) (next : r0 ≡ length facts) where
  pub fresh_reflection : Contains facts Reflect → ⊥
  fresh_reflection c = let at = row_of facts Reflect c in let bad : None ≡ Some at.0 = sym none ∙ (fits.reflection at.0).0 at.1 in absurd cc

  pub fits_reflection : (new : List Fact) → new ≡ facts ++ Reflect ∷ [] → Fits new names by_type (Some r0)
  fits_reflection new is = let P : List Fact → Type 0 = λ l. Fits l names by_type (Some r0) in subst P (sym is) (record {
    named = λ q r. (
      λ h. elim (row_back facts Reflect (Named q.bytes.now) r h) [
        | inl old ↦ (fits.named q r).0 old
        | inr e ↦ absurd (let bad : Reflect ≡ Named q.bytes.now = e.1 in cc)
      ],
      λ h. get_append facts (Reflect ∷ []) r (Named q.bytes.now) ((fits.named q r).1 h),
    );
    sigs = λ q r. (λ h. (fits.sigs q r).0 (h.0, old_name h.0 q.named h.1, old_sig h.0 q.of r h.2), λ h. let s = (fits.sigs q r).1 h in (s.0, get_append facts (Reflect ∷ []) q.named (Named s.0) s.1, get_append facts (Reflect ∷ []) r (Sig s.0 q.of) s.2));
    beside = λ n t r h. Contains-append_left facts (Reflect ∷ []) (Named n) (fits.beside n t r (old_sig n t r h));
    reflection = λ r. (
      λ h. elim (row_back facts Reflect Reflect r h) [
        | inl old ↦ absurd (fresh_reflection (among facts r Reflect old))
        | inr e ↦ ap Some (next ∙ sym e.0)
      ],
      λ h. let P : ℕ → Type 0 = λ i. Stands (facts ++ Reflect ∷ []) i Reflect in subst P (sym next ∙ same_Some r0 r h) (get_at_end facts Reflect),
    );
  })
    where
      old_name : (n : List ℕ) (r : ℕ) → Stands (facts ++ Reflect ∷ []) r (Named n) → Stands facts r (Named n)
      old_name n r h = elim (row_back facts Reflect (Named n) r h) [ inl old ↦ old | inr e ↦ absurd (let bad : Reflect ≡ Named n = e.1 in cc) ]

      old_sig : (n : List ℕ) (t r : ℕ) → Stands (facts ++ Reflect ∷ []) r (Sig n t) → Stands facts r (Sig n t)
      old_sig n t r h = elim (row_back facts Reflect (Sig n t) r h) [ inl old ↦ old | inr e ↦ absurd (let bad : Reflect ≡ Sig n t = e.1 in cc) ]
