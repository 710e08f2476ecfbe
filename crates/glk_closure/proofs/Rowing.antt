-- One row more, one row's fact marked, one method more that waits in a row.
use Rattle.std.proofs.Common.{◌≡◌, ◌<◌, ◌≤◌, ℕ, zero, suc, true, false, List, [], ◌∷◌, ◌++◌, length, get_or, set, inl, inr, refl, sym, ap, ◌∙◌, subst, arith}
use Rattle.std.specs.List.{Contains}
use Rattle.std.proofs.lemmas.Bool.{cases_eq, cases_lt, both_ways}
use Rattle.std.proofs.lemmas.Option.{slice_get_within, slice_get_read, same_Some}
use Rattle.std.proofs.lemmas.List.{length-set, length_push}
use Rattle.std.proofs.lemmas.List.Elements.{Contains-append_left, Contains-push, Contains-push_cases}
use Rattle.std.specs.Option.{option_map_or}
use Rattle.glk_closure.specs.declared.effect.Targets.{Targets}
use Rattle.glk_closure.specs.declared.marks.Marks.{Marks}
use Rattle.glk_closure.specs.declared.marks.WaitingRow.{WaitingRow}
use Rattle.glk_closure.specs.Graph.{Graph}
use Rattle.glk_closure.specs.Reach.{Fact, Reach}
use Rattle.glk_closure.specs.Views.{AreBelow}
use Rattle.glk_closure.specs.Rows.{Stands, Numbers}
use Rattle.glk_closure.specs.Marks.{called_at, methods_at, Covers, Backs, AllKept, Extends, ExtendsIf, Waits}
use Rattle.glk_closure.proofs.Derivations.{Contains-nil}
use Rattle.glk_closure.proofs.Growth.{Extends-rows, Extends-from}
use Rattle.glk_closure.proofs.Parts.{set_same, set_other, push_default, get_append, get_front, get_last, get_or_some}

pub record SameKeys (a b : Marks) : Type 0 where
  pub kept : b.kept ≡ a.kept
  pub iface : b.iface ≡ a.iface
  pub work : b.work.items ≡ a.work.items

-- a row of a fact that stands is a row
pub row_within : (m : Marks) (n r : ℕ) (f : Fact) → Covers m n → Stands m.calls r f → r < length m.rows.items
row_within m n r f c h = let l : r < length m.calls = slice_get_within m.calls r f h in omega (arith, l, c.rows)

-- what was read of a row
pub row_read_methods : (rs : List WaitingRow) (r : ℕ) (v : WaitingRow) → r < length rs → v ≡ get_or rs r v → v.methods.items ≡ methods_at rs r
row_read_methods rs r v l e = sym (ap (λ o. option_map_or (λ (x : WaitingRow). x.methods.items) o []) (slice_get_read rs (length rs) r v refl l e))

pub row_read_called : (rs : List WaitingRow) (r : ℕ) (v : WaitingRow) → r < length rs → v ≡ get_or rs r v → v.called ≡ called_at rs r
row_read_called rs r v l e = sym (ap (λ o. option_map_or (λ (x : WaitingRow). x.called) o false) (slice_get_read rs (length rs) r v refl l e))

-- nothing changes
pub Extends-none : (w : Graph) (a b : Marks) → SameKeys a b → b.calls ≡ a.calls → b.rows.items ≡ a.rows.items → Extends w a b
Extends-none w a b k calls rows = Extends-from {w = w} {P = Unit {0}} {a = a} {b = b} (Extends-rows (record {
  kept = k.kept;
  iface = k.iface;
  work = k.work;
  stands = λ r f h. rw calls h;
  called = λ r h. rw rows h;
  methods = λ r x h. rw rows h;
  back_called = λ r f h c. inl (rw calls at h, rw rows at c);
  back_waits = λ r f x h c. inl (rw calls at h, rw rows at c);
  covers = λ c. record {
    kept = ap length k.kept ∙ c.kept;
    iface = ap length k.iface ∙ c.iface;
    rows = ap length rows ∙ c.rows ∙ ap length (sym calls);
    below = λ r t h. c.below r t (rw rows at h);
    once = λ r s f h i. c.once r s f (rw calls at h) (rw calls at i);
  };
  ready = λ h r x c m t o d. rw k.kept (h r x (rw rows at c) (rw rows at m) t o d);
})) (λ _. tt)

module _ (w : Graph) (a b : Marks) (k : SameKeys a b) (f : Fact) (v : WaitingRow) (called : v.called ≡ false) (methods : v.methods.items ≡ []) (size : length a.rows.items ≡ length a.calls) (calls : b.calls ≡ a.calls ++ f ∷ []) (fresh : Contains a.calls f → ⊥) (rows : b.rows.items ≡ a.rows.items ++ v ∷ []) where
  c_same : (r : ℕ) → called_at b.rows.items r ≡ called_at a.rows.items r
  c_same r = ap (λ rs. called_at rs r) rows ∙ push_default (λ (x : WaitingRow). x.called) false a.rows.items v r called

  m_same : (r : ℕ) → methods_at b.rows.items r ≡ methods_at a.rows.items r
  m_same r = ap (λ rs. methods_at rs r) rows ∙ push_default (λ (x : WaitingRow). x.methods.items) [] a.rows.items v r methods

  -- a row that holds something is one of the old ones
  called_old : (r : ℕ) (g : Fact) → Stands b.calls r g → called_at a.rows.items r ≡ true → Stands a.calls r g
  called_old r g h c =
      let stands : Stands (a.calls ++ f ∷ []) r g = rw calls at h in
      elim (cases_lt r (length a.calls)) [
        | inl l ↦ get_front a.calls (f ∷ []) r g l stands
        | inr ge ↦ absurd (both_ways (called_at a.rows.items r) (called_past a.rows.items r (omega (arith, ge, size))) c)
      ]
    where
      called_past : (rs : List WaitingRow) (r : ℕ) → length rs ≤ r → called_at rs r ≡ false
      called_past [] r l = refl
      called_past (x ∷ xs) zero l = absurd (omega (arith, l))
      called_past (x ∷ xs) (suc r) l = called_past xs r (omega arith)

  waits_old : (r : ℕ) (g : Fact) (x : Targets) → Stands b.calls r g → Contains (methods_at a.rows.items r) x → Stands a.calls r g
  waits_old r g x h c =
      let stands : Stands (a.calls ++ f ∷ []) r g = rw calls at h in
      elim (cases_lt r (length a.calls)) [
        | inl l ↦ get_front a.calls (f ∷ []) r g l stands
        | inr ge ↦ absurd (Contains-nil x (rw (methods_past a.rows.items r (omega (arith, ge, size))) at c))
      ]
    where
      methods_past : (rs : List WaitingRow) (r : ℕ) → length rs ≤ r → methods_at rs r ≡ []
      methods_past [] r l = refl
      methods_past (x ∷ xs) zero l = absurd (omega (arith, l))
      methods_past (x ∷ xs) (suc r) l = methods_past xs r (omega arith)

  once_more : ((r s : ℕ) (g : Fact) → Stands a.calls r g → Stands a.calls s g → r ≡ s) → (r s : ℕ) (g : Fact) → Stands (a.calls ++ f ∷ []) r g → Stands (a.calls ++ f ∷ []) s g → r ≡ s
  once_more once r s g h i = elim (cases_lt r (length a.calls)) [
    | inl l ↦ elim (cases_lt s (length a.calls)) [
      | inl m ↦ once r s g (get_front a.calls (f ∷ []) r g l h) (get_front a.calls (f ∷ []) s g m i)
      | inr n ↦ absurd (twice r g (get_front a.calls (f ∷ []) r g l h) (get_last a.calls f s g n i).1)
    ]
    | inr n ↦ elim (cases_lt s (length a.calls)) [
      | inl m ↦ absurd (twice s g (get_front a.calls (f ∷ []) s g m i) (get_last a.calls f r g n h).1)
      | inr o ↦ (get_last a.calls f r g n h).0 ∙ sym (get_last a.calls f s g o i).0
    ]
  ]
    where
      twice : (q : ℕ) (g : Fact) → Stands a.calls q g → f ≡ g → ⊥
      twice q g h e = fresh (q, slice_get_within a.calls q g h, get_or_some a.calls q g f h ∙ sym e)

  -- a new row, in which nothing waits
  pub Extends-new : Extends w a b
  Extends-new = Extends-from {w = w} {P = Unit {0}} {a = a} {b = b} (Extends-rows (record {
    kept = k.kept;
    iface = k.iface;
    work = k.work;
    stands = λ r g h. rw calls (get_append a.calls (f ∷ []) r g h);
    called = λ r h. c_same r ∙ h;
    methods = λ r x h. rw (m_same r) h;
    back_called = λ r g h c. let o = sym (c_same r) ∙ c in inl (called_old r g h o, o);
    back_waits = λ r g x h c. let o : Contains (methods_at a.rows.items r) x = rw (m_same r) at c in inl (waits_old r g x h o, o);
    covers = λ c. record {
      kept = ap length k.kept ∙ c.kept;
      iface = ap length k.iface ∙ c.iface;
      rows = omega (arith, ap length rows, length_push a.rows.items v, ap length calls, length_push a.calls f, size);
      below = λ r t h. c.below r t (rw (m_same r) at h);
      once = λ r s g h i. once_more c.once r s g (rw calls at h) (rw calls at i);
    };
    ready = λ h r x c m t o d. rw k.kept (h r x (sym (c_same r) ∙ c) (rw (m_same r) at m) t o d);
  })) (λ _. tt)

-- a row is written
module _ (w : Graph) (a b : Marks) (k : SameKeys a b) (f : Fact) (row : ℕ) (v : WaitingRow) (at : Stands a.calls row f) (within : row < length a.rows.items) (calls : b.calls ≡ a.calls) (rows : b.rows.items ≡ set a.rows.items row v) where
  pub c_here : called_at b.rows.items row ≡ v.called
  c_here = ap (λ rs. called_at rs row) rows ∙ set_same (λ (x : WaitingRow). x.called) false a.rows.items row v within

  m_here : methods_at b.rows.items row ≡ v.methods.items
  m_here = ap (λ rs. methods_at rs row) rows ∙ set_same (λ (x : WaitingRow). x.methods.items) [] a.rows.items row v within

  c_there : (r : ℕ) → (r ≡ row → ⊥) → called_at b.rows.items r ≡ called_at a.rows.items r
  c_there r ne = ap (λ rs. called_at rs r) rows ∙ set_other (λ (x : WaitingRow). x.called) false a.rows.items row r v ne

  m_there : (r : ℕ) → (r ≡ row → ⊥) → methods_at b.rows.items r ≡ methods_at a.rows.items r
  m_there r ne = ap (λ rs. methods_at rs r) rows ∙ set_other (λ (x : WaitingRow). x.methods.items) [] a.rows.items row r v ne

  back : (r : ℕ) (g : Fact) → Stands b.calls r g → Stands a.calls r g
  back r g h = rw calls at h

  one : (g : Fact) → Stands a.calls row g → f ≡ g
  one g h = same_Some f g (sym at ∙ h)

  covers_on : ((x : Targets) → Contains v.methods.items x → AreBelow w.keys x) → Covers a w.keys → Covers b w.keys
  covers_on below c = record {
    kept = ap length k.kept ∙ c.kept;
    iface = ap length k.iface ∙ c.iface;
    rows = ap length rows ∙ length-set a.rows.items row v ∙ c.rows ∙ ap length (sym calls);
    below = λ r t h. elim (cases_eq r row) [
      | inl e ↦ below t (rw (e, m_here) at h)
      | inr ne ↦ c.below r t (rw (m_there r ne) at h)
    ];
    once = λ r s g h i. c.once r s g (back r g h) (back s g i);
  }

  -- its fact is marked
  pub Extends-called : v.called ≡ true → v.methods.items ≡ methods_at a.rows.items row → ((x : Targets) → Contains (methods_at a.rows.items row) x → AllKept w a x) → (Covers a w.keys) → ExtendsIf w (Reach w f) a b
  Extends-called called methods kept cov = Extends-rows (record {
    kept = k.kept;
    iface = k.iface;
    work = k.work;
    stands = λ q g h. rw calls h;
    called = λ q h. elim (cases_eq q row) [ inl e ↦ rw e (c_here ∙ called) | inr ne ↦ c_there q ne ∙ h ];
    methods = λ q x h. rw (m_all q) h;
    back_called = λ q g h c. elim (cases_eq q row) [
      | inl e ↦ inr (λ r s. let P : Fact → Type 0 = λ i. Reach w i in subst P (one g (rw e at (back q g h))) r)
      | inr ne ↦ inl (back q g h, sym (c_there q ne) ∙ c)
    ];
    back_waits = λ q g x h c. inl (back q g h, rw (m_all q) at c);
    covers = covers_on (λ x h. cov.below row x (rw methods at h));
    ready = λ h q x c m t o d. elim (cases_eq q row) [
      | inl e ↦ rw k.kept (kept x (rw (m_all q, e) at m) t o d)
      | inr ne ↦ rw k.kept (h q x (sym (c_there q ne) ∙ c) (rw (m_all q) at m) t o d)
    ];
  })
    where
      m_all : (q : ℕ) → methods_at b.rows.items q ≡ methods_at a.rows.items q
      m_all q = elim (cases_eq q row) [ inl e ↦ rw e (m_here ∙ methods) | inr ne ↦ m_there q ne ]

  -- one more method waits for its fact
  pub Extends-waits : (y : Targets) → v.called ≡ called_at a.rows.items row → v.methods.items ≡ methods_at a.rows.items row ++ y ∷ [] → (called_at a.rows.items row ≡ true → AllKept w a y) → AreBelow w.keys y → Covers a w.keys → ExtendsIf w (Backs w f y) a b
  Extends-waits y called methods kept below cov = Extends-rows (record {
    kept = k.kept;
    iface = k.iface;
    work = k.work;
    stands = λ q g h. rw calls h;
    called = λ q h. c_all q ∙ h;
    methods = λ q x h. elim (cases_eq q row) [
      | inl e ↦ rw (e, m_here, methods) (Contains-append_left (methods_at a.rows.items row) (y ∷ []) x (rw e at h))
      | inr ne ↦ rw (m_there q ne) h
    ];
    back_called = λ q g h c. inl (back q g h, sym (c_all q) ∙ c);
    back_waits = λ q g x h c. elim (cases_eq q row) [
      | inl e ↦ elim (Contains-push_cases (methods_at a.rows.items row) y x (rw (e, m_here, methods) at c)) [
        | inl o ↦ inl (back q g h, rw e o)
        | inr is ↦ inr (λ backs s. let P : Targets → Type 0 = λ i. Backs w g i in let Q : Fact → Type 0 = λ i. Backs w i y in subst P is (subst Q (one g (rw e at (back q g h))) backs))
      ]
      | inr ne ↦ inl (back q g h, rw (m_there q ne) at c)
    ];
    covers = covers_on (λ x h. elim (Contains-push_cases (methods_at a.rows.items row) y x (rw methods at h)) [
      | inl o ↦ cov.below row x o
      | inr is ↦ let P : Targets → Type 0 = λ i. AreBelow w.keys i in subst P is below
    ]);
    ready = λ h q x c m t o d. rw k.kept (elim (cases_eq q row) [
      | inl e ↦ elim (Contains-push_cases (methods_at a.rows.items row) y x (rw (e, m_here, methods) at m)) [
        | inl old ↦ h row x (rw e at (sym (c_all q) ∙ c)) old t o d
        | inr is ↦ (let P : Targets → Type 0 = λ i. AllKept w a i in subst P is (kept (rw e at (sym (c_all q) ∙ c)))) t o d
      ]
      | inr ne ↦ h q x (sym (c_all q) ∙ c) (rw (m_there q ne) at m) t o d
    ]);
  })
    where
      c_all : (q : ℕ) → called_at b.rows.items q ≡ called_at a.rows.items q
      c_all q = elim (cases_eq q row) [ inl e ↦ rw e (c_here ∙ called) | inr ne ↦ c_there q ne ]

  pub waits_here : (y : Targets) → v.methods.items ≡ methods_at a.rows.items row ++ y ∷ [] → Waits b f y
  waits_here y methods = (row, at', rw (m_here, methods) (Contains-push (methods_at a.rows.items row) y))
    where
      at' : Stands b.calls row f
      at' = rw calls at

-- the row of a fact, which may be new
module _ (w : Graph) (a b : Marks) (k : SameKeys a b) (f : Fact) (r : ℕ) (n : Numbers a.calls b.calls f r) (size : length a.rows.items ≡ length a.calls) where
  pub number_push : (v : WaitingRow) → v.called ≡ false → v.methods.items ≡ [] → r ≡ length a.rows.items → b.rows.items ≡ a.rows.items ++ v ∷ [] → Extends w a b
  number_push v called methods e rows = elim n.cases [
    | inl same ↦ absurd (let h : Stands a.calls r f = rw same at n.stands in let l : r < length a.calls = slice_get_within a.calls r f h in omega (arith, l, e, size))
    | inr p ↦ Extends-new w a b k f v called methods size p.0 p.1 rows
  ]

  pub number_none : (r ≡ length a.rows.items → ⊥) → b.rows.items ≡ a.rows.items → Extends w a b
  number_none ne rows = elim n.cases [
    | inl same ↦ Extends-none w a b k same rows
    | inr p ↦ absurd (let h : Stands (a.calls ++ f ∷ []) r f = rw p.0 at n.stands in elim (cases_lt r (length a.calls)) [
      | inl l ↦ p.1 (let o = get_front a.calls (f ∷ []) r f l h in (r, l, get_or_some a.calls r f f o))
      | inr ge ↦ ne ((get_last a.calls f r f ge h).0 ∙ sym size)
    ])
  ]
