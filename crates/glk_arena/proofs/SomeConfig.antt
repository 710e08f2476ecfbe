-- There is an answer for the lines of each configuration.
use Rattle.std.proofs.Common.{◌≡◌, ◌<◌, ◌⊎◌, inl, inr, ℕ, zero, suc, true, List, length, drop, refl, sym, subst, arith, nat_eq, Option, None, Some}
use Rattle.std.specs.List.{starts_with, before_first, after_first}
use Rattle.std.specs.Str.{is_utf8}
use Rattle.std.proofs.lemmas.Bool.{cases_lt}
use Rattle.glk_base.specs.Lines.{lines, is_skipped, line_at, line_number, AllGood, IsFirstBad}
use Rattle.glk_package.proofs.Decided.{IsDecided, all_of, one_of, negated, below, is_true, same_bytes, if_same, HasLeast, least_below}
use Rattle.glk_arena.specs.Config.{packagefile, modinfo, is_equals_sign, Lists, IsModinfo, IsGood, IsGoodLine, IsLastFile, ConfigLines}

-- the path and the file that a line would list
abbrev line_path : List ℕ → List ℕ
line_path line = before_first is_equals_sign (drop (length packagefile) line)

abbrev line_file : List ℕ → List ℕ
line_file line = after_first is_equals_sign (drop (length packagefile) line)

lists_own : (line : List ℕ) → IsDecided (Lists line (line_path line) (line_file line))
lists_own line = if_same
    ((is_utf8 line ≡ true) × ((starts_with nat_eq line packagefile ≡ true) × ((0 < length (line_path line)) × (0 < length (line_file line)))))
    (Lists line (line_path line) (line_file line))
    (λ h. record { text = h.0; word = h.1.0; path_is = refl; file_is = refl; some_path = h.1.1.0; some_file = h.1.1.1 })
    (λ h. (h.text, (h.word, (h.some_path, h.some_file))))
    (all_of _ _ (is_true (is_utf8 line)) (all_of _ _ (is_true (starts_with nat_eq line packagefile)) (all_of _ _ (below 0 (length (line_path line))) (below 0 (length (line_file line))))))

lists_some : (line : List ℕ) → IsDecided ((path : List ℕ) × (file : List ℕ) × Lists line path file)
lists_some line = if_same (Lists line (line_path line) (line_file line)) ((path : List ℕ) × (file : List ℕ) × Lists line path file)
    (λ h. (line_path line, line_file line, h))
    (λ h. subst (λ (f : List ℕ). Lists line (line_path line) f) h.2.file_is (subst (λ (p : List ℕ). Lists line p h.1) h.2.path_is h.2))
    (lists_own line)

is_modinfo : (line : List ℕ) → IsDecided (IsModinfo line)
is_modinfo line = if_same ((is_utf8 line ≡ true) × (starts_with nat_eq line modinfo ≡ true)) (IsModinfo line)
    (λ h. record { text = h.0; word = h.1 }) (λ h. (h.text, h.word))
    (all_of _ _ (is_true (is_utf8 line)) (is_true (starts_with nat_eq line modinfo)))

is_good : (line : List ℕ) → IsDecided (IsGood line)
is_good line = one_of _ _ (is_true (is_skipped line)) (one_of _ _ (is_modinfo line) (lists_some line))

good_or_bad : (ls : List (List ℕ)) → AllGood ls (IsGoodLine ls) ⊎ ((number : ℕ) × IsFirstBad ls (IsGoodLine ls) number)
good_or_bad ls =
    turn (least_below (length ls) (λ k. (k < length ls) × (IsGoodLine ls k → ⊥)) (λ k. all_of _ _ (below k (length ls)) (negated _ (is_good (line_at ls k)))) (λ k h. h.0))
  where
    good : (k : ℕ) → ((IsGoodLine ls k → ⊥) → ⊥) → IsGoodLine ls k
    good k twice = elim (is_good (line_at ls k)) [ inl is ↦ is | inr bad ↦ absurd (twice bad) ]

    turn : HasLeast (λ k. (k < length ls) × (IsGoodLine ls k → ⊥)) → AllGood ls (IsGoodLine ls) ⊎ ((number : ℕ) × IsFirstBad ls (IsGoodLine ls) number)
    turn (inr none) = inl (λ k inside. good k (λ bad. none k (inside, bad)))
    turn (inl (k, l)) = inr (
      line_number k,
      record {
        line = k;
        inside = l.holds.0;
        before = λ j less. good j (λ bad. let low = l.least j (omega (arith, less, l.holds.0), bad) in omega (arith, low, less));
        bad = l.holds.1;
        number_is = refl;
      },
    )

-- a line lists this path
lists_path : (line path : List ℕ) → IsDecided ((file : List ℕ) × Lists line path file)
lists_path line path = if_same (Lists line (line_path line) (line_file line) × (path ≡ line_path line)) ((file : List ℕ) × Lists line path file)
    (λ h. (line_file line, subst (λ (p : List ℕ). Lists line p (line_file line)) (sym h.1) h.0))
    (λ h. (subst (λ (f : List ℕ). Lists line (line_path line) f) h.1.file_is (subst (λ (p : List ℕ). Lists line p h.0) h.1.path_is h.1), h.1.path_is))
    (all_of _ _ (lists_own line) (same_bytes path (line_path line)))

last_file : (ls : List (List ℕ)) (n : ℕ) (path : List ℕ) → (file : Option (List ℕ)) × IsLastFile ls n path file
last_file ls zero path = (None, λ k file less lists. omega (arith, less))
last_file ls (suc n) path = step (lists_path (line_at ls n) path) (last_file ls n path)
  where
    step : IsDecided ((file : List ℕ) × Lists (line_at ls n) path file) → (file : Option (List ℕ)) × IsLastFile ls n path file → (file : Option (List ℕ)) × IsLastFile ls (suc n) path file
    step (inl (file, lists)) before = (Some file, record { line = n; inside = omega arith; lists = lists; later = λ k other more less h. omega (arith, more, less) })
    step (inr none) (None, no_earlier) = (
      None,
      λ k file less lists. elim (cases_lt k n) [
        | inl early ↦ no_earlier k file early lists
        | inr late ↦
            let e : k ≡ n = omega (arith, less) in
            none (file, subst (λ (j : ℕ). Lists (line_at ls j) path file) e lists)
      ],
    )
    step (inr none) (Some file, is) = (
      Some file,
      record {
        line = is.line;
        inside = omega (arith, is.inside);
        lists = is.lists;
        later = λ k other more less lists. elim (cases_lt k n) [
          | inl early ↦ is.later k other more early lists
          | inr late ↦
              let e : k ≡ n = omega (arith, less) in
              none (other, subst (λ (j : ℕ). Lists (line_at ls j) path other) e lists)
        ];
      },
    )

pub some_config : (text : List ℕ) → ((listed : List ℕ → Option (List ℕ)) × ConfigLines (lines text) listed) ⊎ ((number : ℕ) × IsFirstBad (lines text) (IsGoodLine (lines text)) number)
some_config text = turn (good_or_bad (lines text))
  where
    turn : AllGood (lines text) (IsGoodLine (lines text)) ⊎ ((number : ℕ) × IsFirstBad (lines text) (IsGoodLine (lines text)) number)
        → ((listed : List ℕ → Option (List ℕ)) × ConfigLines (lines text) listed) ⊎ ((number : ℕ) × IsFirstBad (lines text) (IsGoodLine (lines text)) number)
    turn (inl good) = inl (
      λ path. (last_file (lines text) (length (lines text)) path).0,
      record {
        good = good;
        files = λ path. (last_file (lines text) (length (lines text)) path).1;
      },
    )
    turn (inr bad) = inr bad
