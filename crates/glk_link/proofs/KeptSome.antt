-- What is kept can be found: marks are added rule by rule until they are closed under the rules.
use Rattle.std.proofs.Common.{◌≡◌, ◌<◌, ◌≤◌, ◌+◌, ℕ, zero, suc, Bool, true, false, not, List, [], ◌∷◌, ◌++◌, length, get_or, set, replicate, ◌⊎◌, inl, inr, sym, ◌∙◌, subst, arith}
use Rattle.std.specs.List.{count_by}
use Rattle.std.proofs.lemmas.Bool.{cases_lt, cases_Bool, false≢true, cases_eq}
use Rattle.std.proofs.lemmas.List.{length-set, length-replicate, get_or_past, get_or-replicate}
use Rattle.glk_arena.specs.World.{Package, objects_of}
use Rattle.glk_link.specs.World.{AreObjects, rows, symbol_at, reloc_count}
use Rattle.glk_link.specs.Reach.{IsEntry, Calls, Step, entry_stays, callee_stays, IsReached, AreKept}
use Rattle.glk_link.specs.Image.{IsStart}
use Rattle.glk_link.specs.Marks.{AreBelow}
use Rattle.glk_package.proofs.Decided.{IsDecided, if_same, one_of, is_true, is_false}
use Rattle.glk_link.proofs.Decided.{both, equal, IsLeast, first_below, some_below}
use Rattle.glk_link.proofs.PlainDecided.{entry_row}
use Rattle.glk_link.proofs.CallDecided.{calls}
use Rattle.glk_link.proofs.Derivations.{Step-weaker, IsReached-step, IsReached-least}
use Rattle.glk_link.proofs.Search.{reached_definition}
use Rattle.glk_link.proofs.Growth.{after_set, fewer}
use Rattle.glk_link.proofs.KeptLists.{below_push, below_skip, kept_all}

abbrev IsMarked : List Bool → ℕ → Type 0
IsMarked marks i = get_or marks i false ≡ true

marked_within : (marks : List Bool) (i : ℕ) → IsMarked marks i → i < length marks
marked_within marks i h =
    elim (cases_lt i (length marks)) [
      | inl l ↦ l
      | inr past ↦ absurd (false≢true (sym (get_or_past marks i false past) ∙ h))
    ]

-- a marked definition calls the row
abbrev IsCalled : List Package → List Bool → ℕ → ℕ → Type 0
IsCalled world marks i j = IsMarked marks j × ((k : ℕ) × (k < reloc_count world j) × Calls world j k i)

is_called : (world : List Package) (marks : List Bool) (i j : ℕ) → IsDecided (IsCalled world marks i j)
is_called world marks i j =
    both (IsMarked marks j) ((k : ℕ) × (k < reloc_count world j) × Calls world j k i) (is_true (get_or marks j false))
    (λ _. some_below (λ k. Calls world j k i) (reloc_count world j) (λ k within. calls world j k i))

-- a rule marks the row
abbrev Caller : List Package → List Bool → ℕ → Type 0
Caller world marks i = (j : ℕ) × (j < length marks) × IsCalled world marks i j

by_rule : (world : List Package) (entry : List ℕ) (marks : List Bool) (i : ℕ) → IsDecided (Step world entry (IsMarked marks) i)
by_rule world entry marks i =
    if_same (IsEntry world entry i ⊎ Caller world marks i) (Step world entry (IsMarked marks) i) forth back
    (one_of (IsEntry world entry i) (Caller world marks i) (entry_row world entry i)
    (some_below (λ j. IsCalled world marks i j) (length marks) (λ j below. is_called world marks i j)))
  where
    forth : IsEntry world entry i ⊎ Caller world marks i → Step world entry (IsMarked marks) i
    forth (inl is) = entry_stays i is
    forth (inr c) = callee_stays c.0 c.2.1.0 i c.2.0 c.2.1.2

    back : {n : ℕ} → Step world entry (IsMarked marks) n → IsEntry world entry n ⊎ Caller world marks n
    back (entry_stays n is) = inl is
    back (callee_stays j k n marked call) = inr (j, marked_within marks j marked, (marked, (k, call.within, call)))

module _ (world : List Package) (entry : List ℕ) (objects : AreObjects (objects_of world)) where
  abbrev IsSound : List Bool → Type 0
  IsSound marks = (i : ℕ) → IsMarked marks i → IsReached world entry i

  -- exactly what is reached is marked
  record AreMarks (marks : List Bool) : Type 0 where
    sound : IsSound marks
    closed : (i : ℕ) → Step world entry (IsMarked marks) i → IsMarked marks i

  -- one mark more
  record IsOneMore (old new : List Bool) : Type 0 where
    size : length new ≡ length old
    sound : IsSound new
    lighter : count_by not new + 1 ≡ count_by not old

  abbrev IsWanting : List Bool → ℕ → Type 0
  IsWanting marks i = (get_or marks i false ≡ false) × Step world entry (IsMarked marks) i

  turn : (marks : List Bool) → length marks ≡ rows (objects_of world) → IsSound marks → AreMarks marks ⊎ ((new : List Bool) × IsOneMore marks new)
  turn marks size sound =
      by_search (first_below (IsWanting marks) (rows (objects_of world))
      (λ i lt. both (get_or marks i false ≡ false) (Step world entry (IsMarked marks) i) (is_false (get_or marks i false)) (λ _. by_rule world entry marks i)))
    where
      reached : (i : ℕ) → Step world entry (IsMarked marks) i → IsReached world entry i
      reached i step = IsReached-step (Step-weaker sound step)

      more_sound : (key : ℕ) → Step world entry (IsMarked marks) key → IsSound (set marks key true)
      more_sound key step i h = elim (after_set marks key i h) [
        | inl before ↦ sound i before
        | inr is ↦ subst (λ (n : ℕ). IsReached world entry n) (sym is) (reached key step)
      ]

      by_search : IsLeast (IsWanting marks) (rows (objects_of world)) ⊎ ((i : ℕ) → i < rows (objects_of world) → IsWanting marks i → ⊥)
          → AreMarks marks ⊎ ((new : List Bool) × IsOneMore marks new)
      by_search (inl f) = inr (
        set marks f.number true,
        record {
          size = length-set marks f.number true;
          sound = more_sound f.number f.holds.1;
          lighter = fewer marks f.number (omega (arith, f.below, size)) f.holds.0;
        },
      )
      by_search (inr none) = inl (record {
        sound = sound;
        closed = λ i step. elim (cases_Bool (get_or marks i false)) [
          | inl marked ↦ marked
          | inr unmarked ↦ absurd (none i (reached_definition world entry objects i (reached i step)).row (unmarked, step))
        ];
      })

  close : (n : ℕ) (marks : List Bool) → length marks ≡ rows (objects_of world) → IsSound marks → count_by not marks ≤ n → (all : List Bool) × AreMarks all
  close zero marks size sound few = elim (turn marks size sound) [
    | inl all ↦ (marks, all)
    | inr m ↦ absurd (omega (arith, few, m.1.lighter))
  ]
  close (suc n) marks size sound few = elim (turn marks size sound) [
    | inl all ↦ (marks, all)
    | inr m ↦ close n m.0 (m.1.size ∙ size) m.1.sound (omega (arith, few, m.1.lighter))
  ]

  none_marked : (n i : ℕ) → IsMarked (replicate n false) i → ⊥
  none_marked n i h =
      let lt = marked_within (replicate n false) i h in
      false≢true (sym (get_or-replicate n i false false (omega (arith, lt, length-replicate {A = Bool} n false))) ∙ h)

  all_marks : (all : List Bool) × AreMarks all
  all_marks =
      let n : ℕ = rows (objects_of world) in
      close (count_by not (replicate n false)) (replicate n false) (length-replicate {A = Bool} n false) (λ i h. absurd (none_marked n i h)) (omega arith)

  listed : (P : ℕ → Type 0) → ((i : ℕ) → IsDecided (P i)) → (n : ℕ) → (kept : List ℕ) × AreBelow P n kept
  listed P each zero = (
    [],
    record {
      rising = λ i j d lt within. absurd (omega (arith, within));
      sound = λ k d lt. absurd (omega (arith, lt));
      whole = λ i lt. absurd (omega (arith, lt));
    },
  )
  listed P each (suc n) = one_more (listed P each n) (each n)
    where
      next : n + 1 ≡ suc n
      next = omega arith

      one_more : (kept : List ℕ) × AreBelow P n kept → IsDecided (P n) → (kept : List ℕ) × AreBelow P (suc n) kept
      one_more (kept, are) (inl is) = (kept ++ n ∷ [], subst (λ (m : ℕ). AreBelow P m (kept ++ n ∷ [])) next (below_push P n kept are is))
      one_more (kept, are) (inr not_n) = (kept, subst (λ (m : ℕ). AreBelow P m kept) next (below_skip P n kept are not_n))

  pub kept_some : (kept : List ℕ) × AreKept world entry kept
  kept_some = by_marks all_marks.0 all_marks.1
    where
      by_marks : (all : List Bool) → AreMarks all → (kept : List ℕ) × AreKept world entry kept
      by_marks all are =
          let list = listed (IsMarked all) (λ i. is_true (get_or all i false)) (rows (objects_of world)) in (
            list.0,
            kept_all (IsMarked all) world entry (rows (objects_of world)) list.0 list.1 are.sound
                (λ i reached. IsReached-least world entry (IsMarked all) are.closed i reached)
                (λ i marked. (reached_definition world entry objects i (are.sound i marked)).row),
          )

-- where there is a definition of the entry, there is one at which the image starts
pub start_some : (world : List Package) (entry : List ℕ) → (i : ℕ) × IsEntry world entry i → (i : ℕ) × IsStart world entry i
start_some world entry found =
    by_search (some_below Low (rows (objects_of world)) (λ i lt. both (IsEntry world entry i) ((symbol_at world i).abi ≡ 0) (entry_row world entry i) (λ _. equal (symbol_at world i).abi 0)))
  where
    Low : ℕ → Type 0
    Low i = IsEntry world entry i × ((symbol_at world i).abi ≡ 0)

    by_search : IsDecided ((i : ℕ) × (i < rows (objects_of world)) × Low i) → (i : ℕ) × IsStart world entry i
    by_search (inl low) = (low.0, record { is_entry = low.2.0; first = λ j is. omega (arith, low.2.1) })
    by_search (inr none) = (
      found.0,
      record {
        is_entry = found.1;
        first = λ j is. elim (cases_eq (symbol_at world j).abi 0) [
          | inl zero_is ↦ absurd (none (j, is.definition.row, (is, zero_is)))
          | inr some ↦ omega (arith, some, found.1.abi)
        ];
      },
    )
