-- What the words of a closed table say of the lists of its seat.
use Rattle.std.proofs.Common.{◌≡◌, ◌≢◌, ℕ, ◌+◌, ◌-◌, ◌^◌, ◌<◌, ◌≤◌, min, max, Bool, true, false, List, [], ◌∷◌, refl, sym, ap, ◌∙◌, subst, ⊎_elim, eq-eqb, ne_eqb, arith}
use Rattle.std.specs.Prelude.{slice_index, slice_index_or, get_or, nat_lt, length, Contains, ◌==◌, if◌then◌else◌}
use Rattle.std.proofs.lemmas.Grind.{get_or_default_zero}
use Rattle.std.proofs.lemmas.List.{get_or_default}
use mathlib.Core.Option.{some}
use mathlib.Core.Logic.{dite}
use native.Mathlib.Decide.{ℕ_discrete, dec_le}
use lib.ListN.{get_elem?}
use Rattle.atomic_table.specs.Table.{Final, Seen}
use Rattle.glk_table.specs.Rule.{no_rank, rank_word, strong_word, id_word, OnePlaceEach, least_by, least_at, least_id, greatest_at, Rule, holds, fold_views}
use Rattle.glk_table.specs.Elections.{Election, Elects, IsElected, election_of, IsLeastId, IsLeastOfKey, IsLeastRank, IsGreatestId, HasNone}
use Rattle.glk_table.specs.Seats.{HasPlace}
use Rattle.glk_table.specs.declared.elected.Arrays.{Arrays}
use Rattle.glk_table.specs.declared.view.View.{View}
use Rattle.glk_table.proofs.Folds.{all_at, all_idle, add_left, min_left, max_left, sum_zero, without, without_at}
use Rattle.glk_table.proofs.Members.{cons_cases, here, there, in_none}
use Rattle.glk_table.proofs.Steps.{knows}
use Rattle.glk_table.proofs.Forks.{least_top}

-- the seat with the whole part holds all calls and offers
module _ (size : ℕ) (ks : List (ℕ × ℕ)) (ws : List ℕ) (vs : List View) (r : Rule size ks ws vs) (id : ℕ) (v : View) (at : get_elem? vs id ≡ some v) (whole : v.part ≡ 2 ^ 32) where
  rest_zero : fold_views ◌+◌ 0 (λ u. u.part) (without id vs) ≡ 0
  rest_zero = let all = all_at ◌+◌ 0 add_left refl (λ u. u.part) vs id v at in let w = r.whole in omega arith

  rest_idle : (j : ℕ) (u : View) → get_elem? (without id vs) j ≡ some u → (u.entered ≡ []) × (u.ranks ≡ []) × (u.strong ≡ [])
  rest_idle j u e = let k = without_at vs id j u e in (r.fits k.0 u k.1).idle (sum_zero (λ w. w.part) (without id vs) j u rest_zero e)

  pub elects : size ≤ 2 ^ 26 → OnePlaceEach v.keys v.entered → Elects v size ws
  elects small calls = record {
    calls = calls;
    small = small;
    long = r.long;
    placed = λ a p m. let s = (r.fits id v at).placed a p m in let b = s.0 in let d = r.room in (omega arith, s.1);
    ranked = (r.fits id v at).ranked;
    named = (r.fits id v at).named;
    ids = λ p h.
        let none : fold_views min no_rank (λ u. least_id p u.entered) (without id vs) ≡ no_rank = all_idle min no_rank min_left refl (λ u. least_id p u.entered) (without id vs) (λ j u e. ap (least_id p) (rest_idle j u e).0) in
        let all = all_at min no_rank min_left refl (λ u. least_id p u.entered) vs id v at in
        let word = r.tallies.ids p h in
        let low = least_top (λ x. x.1) (λ x. x.0) p v.entered in
        omega arith;
    ranks = λ p h.
        let none : fold_views min no_rank (λ u. least_at p u.ranks) (without id vs) ≡ no_rank = all_idle min no_rank min_left refl (λ u. least_at p u.ranks) (without id vs) (λ j u e. ap (least_at p) (rest_idle j u e).1) in
        let all = all_at min no_rank min_left refl (λ u. least_at p u.ranks) vs id v at in
        let word = r.tallies.ranks p h in
        let low = least_top (λ x. x.0) (λ x. x.1) p v.ranks in
        omega arith;
    strong = λ p h.
        let none : fold_views max 0 (λ u. greatest_at p u.strong) (without id vs) ≡ 0 = all_idle max 0 max_left refl (λ u. greatest_at p u.strong) (without id vs) (λ j u e. ap (greatest_at p) (rest_idle j u e).2) in
        let all = all_at max 0 max_left refl (λ u. greatest_at p u.strong) vs id v at in
        let word = r.tallies.strong p h in
        omega arith;
  }

pub closes : (size id : ℕ) (v : View) (ws : List ℕ) (slots : List (Unit {0})) → size ≤ 2 ^ 26 → v.part ≡ 2 ^ 32 → Final (Seen (holds size) id v) ws slots → Elects v size ws
closes size id v ws slots small whole end =
    let s = end.0 in
    let r = end.1.0.1 in
    let at = end.1.1 in
    let P : List ℕ → Type 0 = λ l. Elects v size l in
    let k = knows size end.1.0.0 s.words s.views v r (r.fits id v at) (omega arith) in
    subst P end.2 (elects size end.1.0.0 s.words s.views r id v at whole small k.calls)

-- the least number of the pairs at a place is one of them, and no other is less
module _ (place number : ℕ × ℕ → ℕ) (p : ℕ) where
  pub least_le : (es : List (ℕ × ℕ)) (x : ℕ × ℕ) → Contains es x → place x ≡ p → least_by place number p es ≤ number x
  least_le [] x m e = absurd (in_none x m)
  least_le (y ∷ ys) x m e =
      ⊎_elim
      (λ (t : y ≡ x).
      let test : (place y == p) ≡ true = eq-eqb (place y) p (ap place t ∙ e) in
      let is : least_by place number p (y ∷ ys) ≡ min (number y) (least_by place number p ys) = ap (λ (b : Bool). if b then min (number y) (least_by place number p ys) else least_by place number p ys) test in
      let same : number y ≡ number x = ap number t in
      omega arith)
      (λ (t : Contains ys x). let h = least_le ys x t e in drops (place y == p) (number y) (least_by place number p ys) (number x) h)
      (cons_cases y ys x m)
    where
      drops : (b : Bool) (n k m : ℕ) → k ≤ m → (if b then min n k else k) ≤ m
      drops true n k m h = omega arith
      drops false n k m h = h

  abbrev IsOne : List (ℕ × ℕ) → Type 0
  IsOne es = (x : ℕ × ℕ) × Contains es x × (place x ≡ p) × (number x ≡ least_by place number p es)

  one_here : (y : ℕ × ℕ) (ys : List (ℕ × ℕ)) → (least_by place number p ys < no_rank → IsOne ys) → least_by place number p (y ∷ ys) < no_rank → place y ≡ p → IsOne (y ∷ ys)
  one_here y ys again h e =
      let is : least_by place number p (y ∷ ys) ≡ min (number y) (least_by place number p ys) = ap (λ (b : Bool). if b then min (number y) (least_by place number p ys) else least_by place number p ys) (eq-eqb (place y) p e) in
      dite (dec_le (number y) (least_by place number p ys))
      (λ le. (y, here y ys, e, omega arith))
      (λ gt. let low : least_by place number p ys < no_rank = omega arith in let k = again low in (k.0, there y ys k.0 k.1, k.2, (let a = k.3 in omega arith)))

  one_else : (y : ℕ × ℕ) (ys : List (ℕ × ℕ)) → (least_by place number p ys < no_rank → IsOne ys) → least_by place number p (y ∷ ys) < no_rank → place y ≢ p → IsOne (y ∷ ys)
  one_else y ys again h ne =
      let is : least_by place number p (y ∷ ys) ≡ least_by place number p ys = ap (λ (b : Bool). if b then min (number y) (least_by place number p ys) else least_by place number p ys) (ne_eqb (place y) p ne) in
      let k = again (omega arith) in (k.0, there y ys k.0 k.1, k.2, k.3 ∙ sym is)

  pub least_in : (es : List (ℕ × ℕ)) → least_by place number p es < no_rank → IsOne es
  least_in [] h = absurd (omega arith)
  least_in (y ∷ ys) h = dite (ℕ_discrete (place y) p) (one_here y ys (least_in ys) h) (one_else y ys (least_in ys) h)

pub greatest_le : (p : ℕ) (es : List (ℕ × ℕ)) (a : ℕ) → Contains es (p, a) → a + 1 ≤ greatest_at p es
greatest_le p [] a m = absurd (in_none (p, a) m)
greatest_le p (y ∷ ys) a m =
    ⊎_elim
    (λ (t : y ≡ (p, a)).
    let is : greatest_at p (y ∷ ys) ≡ max (y.1 + 1) (greatest_at p ys) = ap (λ (b : Bool). if b then max (y.1 + 1) (greatest_at p ys) else greatest_at p ys) (eq-eqb y.0 p (ap (λ x. x.0) t)) in
    let same : y.1 ≡ a = ap (λ x. x.1) t in
    omega arith)
    (λ (t : Contains ys (p, a)). let h = greatest_le p ys a t in rises (y.0 == p) (y.1 + 1) (greatest_at p ys) (a + 1) h)
    (cons_cases y ys (p, a) m)
  where
    rises : (b : Bool) (n k m : ℕ) → m ≤ k → m ≤ (if b then max n k else k)
    rises true n k m h = omega arith
    rises false n k m h = h

abbrev IsGreatest : ℕ → List (ℕ × ℕ) → Type 0
IsGreatest p es = (a : ℕ) × Contains es (p, a) × (a + 1 ≡ greatest_at p es)

greatest_here : (p : ℕ) (y : ℕ × ℕ) (ys : List (ℕ × ℕ)) → (0 < greatest_at p ys → IsGreatest p ys) → y.0 ≡ p → IsGreatest p (y ∷ ys)
greatest_here p y ys again e =
    let is : greatest_at p (y ∷ ys) ≡ max (y.1 + 1) (greatest_at p ys) = ap (λ (b : Bool). if b then max (y.1 + 1) (greatest_at p ys) else greatest_at p ys) (eq-eqb y.0 p e) in
    let P : ℕ → Type 0 = λ q. Contains (y ∷ ys) (q, y.1) in
    dite (dec_le (greatest_at p ys) (y.1 + 1))
    (λ le. (y.1, subst P e (here y ys), omega arith))
    (λ gt. let k = again (omega arith) in (k.0, there y ys (p, k.0) k.1, (let a = k.2 in omega arith)))

greatest_else : (p : ℕ) (y : ℕ × ℕ) (ys : List (ℕ × ℕ)) → (0 < greatest_at p ys → IsGreatest p ys) → 0 < greatest_at p (y ∷ ys) → y.0 ≢ p → IsGreatest p (y ∷ ys)
greatest_else p y ys again h ne =
    let is : greatest_at p (y ∷ ys) ≡ greatest_at p ys = ap (λ (b : Bool). if b then max (y.1 + 1) (greatest_at p ys) else greatest_at p ys) (ne_eqb y.0 p ne) in
    let k = again (omega arith) in (k.0, there y ys (p, k.0) k.1, k.2 ∙ sym is)

pub greatest_in : (p : ℕ) (es : List (ℕ × ℕ)) → 0 < greatest_at p es → IsGreatest p es
greatest_in p [] h = absurd (omega arith)
greatest_in p (y ∷ ys) h = dite (ℕ_discrete y.0 p) (greatest_here p y ys (greatest_in p ys)) (greatest_else p y ys (greatest_in p ys) h)

-- what the answers of a closed table rest on
module _ (v : View) (size : ℕ) (ws : List ℕ) (e : Elects v size ws) (p : ℕ) (place : HasPlace v.entered p) where
  pub below : p < size
  below = (e.placed place.0 p place.1).1

  pub key_fits : slice_index ws (id_word size p) < 2 ^ 32
  key_fits =
      let word = e.ids p below in
      let le = least_le (λ x. x.1) (λ x. x.0) p v.entered (place.0, p) place.1 refl in
      let b = (e.placed place.0 p place.1).0 in
      let s = e.small in
      omega arith

  pub key_is : IsLeastId v.entered p (slice_index ws (id_word size p))
  key_is =
      let n = slice_index ws (id_word size p) in
      let word : n ≡ least_id p v.entered = e.ids p below in
      let fits = key_fits in
      let low : least_id p v.entered < no_rank = omega arith in
      let x = least_in (λ y. y.1) (λ y. y.0) p v.entered low in
      let P : ℕ × ℕ → Type 0 = λ y. Contains v.entered y in
      record {
        is_entered = subst P (λ i. ((x.3 ∙ sym word) i, x.2 i)) x.1;
        is_least = λ a m. let le = least_le (λ y. y.1) (λ y. y.0) p v.entered (a, p) m refl in omega arith;
      }

  pub key_of_all : IsLeastOfKey (election_of v) p (slice_index ws (id_word size p))
  key_of_all = record {
    is_of_key = λ a m. e.calls.one_key (slice_index ws (id_word size p)) p a p key_is.is_entered m refl;
    is_least = λ a b q m n same.
        let P : ℕ → Type 0 = λ x. Contains v.entered (b, x) in
        key_is.is_least b (subst P (e.calls.one_place b q a p n m same) n);
  }

  pub least_none : slice_index ws (rank_word size p) ≡ no_rank → HasNone v.ranks p
  least_none h r m =
      let word = e.ranks p below in
      let le = least_le (λ x. x.0) (λ x. x.1) p v.ranks (p, r) m refl in
      let b = e.ranked p r m in
      omega arith

  pub least_some : slice_index ws (rank_word size p) ≢ no_rank → IsLeastRank v.ranks p (slice_index ws (rank_word size p))
  least_some h =
      let n = slice_index ws (rank_word size p) in
      let word : n ≡ least_at p v.ranks = e.ranks p below in
      let most = least_top (λ y. y.0) (λ y. y.1) p v.ranks in
      let low : least_at p v.ranks < no_rank = omega arith in
      let x = least_in (λ y. y.0) (λ y. y.1) p v.ranks low in
      let P : ℕ × ℕ → Type 0 = λ y. Contains v.ranks y in
      record {
        is_offered = subst P (λ i. (x.2 i, (x.3 ∙ sym word) i)) x.1;
        is_least = λ a m. let le = least_le (λ y. y.0) (λ y. y.1) p v.ranks (p, a) m refl in omega arith;
      }

  pub strong_none : slice_index ws (strong_word size p) ≡ 0 → HasNone v.strong p
  strong_none h r m = let word = e.strong p below in let le = greatest_le p v.strong r m in omega arith

  pub strong_some : 0 < slice_index ws (strong_word size p) → (slice_index ws (strong_word size p) - 1 < 2 ^ 32) × IsGreatestId v.strong p (slice_index ws (strong_word size p) - 1)
  strong_some h =
      let n = slice_index ws (strong_word size p) in
      let word : n ≡ greatest_at p v.strong = e.strong p below in
      let x = greatest_in p v.strong (omega arith) in
      let is : x.0 ≡ n - 1 = let a = x.2 in omega arith in
      let fits = e.named p x.0 x.1 in
      let P : ℕ → Type 0 = λ a. Contains v.strong (p, a) in (
        omega arith,
        record {
          is_offered = subst P is x.1;
          is_greatest = λ a m. let le = greatest_le p v.strong a m in omega arith;
        },
      )

-- the arrays answer what the words do
module _ (v : View) (a : Arrays) (e : IsElected v a) (p : ℕ) (place : HasPlace v.entered p) where
  inside : p < e.size
  inside = below v e.size e.words e.elects p place

  pub in_keys : p < length a.keys.items
  in_keys = let h = inside in let long = e.arrays.keys.long in omega arith

  pub in_ranks : p < length a.ranks.items
  in_ranks = let h = inside in let long = e.arrays.ranks.long in omega arith

  pub in_strong : p < length a.strong.items
  in_strong = let h = inside in let long = e.arrays.strong.long in omega arith

  pub in_has_strong : p < length a.has_strong.items
  in_has_strong = let h = inside in let long = e.arrays.has_strong.long in omega arith

  key_word : slice_index e.words (id_word e.size p) ≡ slice_index a.keys.items p
  key_word = let h = e.arrays.keys.each p inside in let fits = key_fits v e.size e.words e.elects p place in omega arith

  pub key_answer : IsLeastId v.entered p (slice_index a.keys.items p)
  key_answer = subst (IsLeastId v.entered p) key_word (key_is v e.size e.words e.elects p place)

  pub key_answer_of_all : IsLeastOfKey (election_of v) p (slice_index a.keys.items p)
  key_answer_of_all = subst (IsLeastOfKey (election_of v) p) key_word (key_of_all v e.size e.words e.elects p place)

  pub no_least : slice_index a.ranks.items p ≡ no_rank → HasNone v.ranks p
  no_least h = least_none v e.size e.words e.elects p place (sym (e.arrays.ranks.each p inside) ∙ h)

  pub least_answer : slice_index a.ranks.items p ≢ no_rank → IsLeastRank v.ranks p (slice_index a.ranks.items p)
  least_answer h =
      let word = e.arrays.ranks.each p inside in
      subst (IsLeastRank v.ranks p) (sym word) (least_some v e.size e.words e.elects p place (λ none. h (word ∙ none)))

  pub no_strong : slice_index_or a.has_strong.items p false ≡ false → HasNone v.strong p
  no_strong h =
      let word : nat_lt 0 (slice_index e.words (strong_word e.size p)) ≡ false = sym (e.arrays.has_strong.each p inside) ∙ h in
      strong_none v e.size e.words e.elects p place (grind (arith, word))

  pub strong_answer : slice_index_or a.has_strong.items p false ≡ true → IsGreatestId v.strong p (slice_index a.strong.items p)
  strong_answer h =
      let word : nat_lt 0 (slice_index e.words (strong_word e.size p)) ≡ true = sym (e.arrays.has_strong.each p inside) ∙ h in
      let some : 0 < slice_index e.words (strong_word e.size p) = grind (arith, word) in
      let greatest = strong_some v e.size e.words e.elects p place some in
      let fits = greatest.0 in
      let item = e.arrays.strong.each p inside in
      let is : slice_index e.words (strong_word e.size p) - 1 ≡ slice_index a.strong.items p = omega arith in
      subst (IsGreatestId v.strong p) is greatest.1

pub placed_in : (v : View) (e : Election) (p : ℕ) → election_of v ≡ e → HasPlace e.entered p → HasPlace v.entered p
placed_in v e p is place = subst (λ (x : Election). HasPlace x.entered p) (sym is) place

-- an item that was read
pub item_at : (xs : List ℕ) (i p r : ℕ) → r ≡ get_or xs i r → i ≡ p → p < length xs → r ≡ slice_index xs p
item_at xs i p r is same inside = is ∙ (get_or_default_zero xs i r (omega (arith, same, inside)) ∙ ap (slice_index xs) same)

pub flag_at : (xs : List Bool) (i p : ℕ) (r : Bool) → r ≡ get_or xs i r → i ≡ p → p < length xs → r ≡ slice_index_or xs p false
flag_at xs i p r is same inside = is ∙ (get_or_default xs i r false (omega (arith, same, inside)) ∙ ap (λ k. slice_index_or xs k false) same)
