-- What all lines of a world's configuration list.
use Rattle.std.proofs.Common.{◌≡◌, ◌∙◌, ℕ, zero, suc, ◌+◌, ◌^◌, ◌<◌, ◌≤◌, arith, List, [], ◌∷◌, ◌++◌, length, get_or, drop, map, true, false, ◌⊎◌, inl, inr, refl, ap, sym, subst, append_assoc, length-append}
use Rattle.std.specs.Prelude.{◌==◌}
use Rattle.std.specs.List.{range_with_len, flat_map, slice_split}
use Rattle.std.proofs.lemmas.List.{get_or_append_left}
use Rattle.std.proofs.lemmas.List.Elements.{All-nil}
use Rattle.std.proofs.lemmas.List.FromFn.{length-map-range_with_len, get_or-map-range_with_len}
use Rattle.std.proofs.lemmas.List.Splits.{slice_split_none, slice_split_at}
use Rattle.std.proofs.lemmas.Fmt.{decimal_injective}
use Rattle.std.proofs.Math.Seq.{get_or-append_seam}
use Rattle.glk_base.specs.Lines.{lines, line_at, trimmed_line}
use Rattle.glk_arena.specs.Config.{Lists, IsGood, IsGoodLine, IsLast}
use Rattle.glk_gen.specs.Packages.{package_count, packages, package_path, package_file}
use Rattle.glk_base.specs.Limits.{function_limit}
use Rattle.glk_gen.specs.Configs.{config_line, importcfg_of}
use Rattle.glk_gen_laws.specs.Listed.{config_lines, ListsPackages}
use Rattle.glk_gen_laws.proofs.LineBytes.{line_of, line_without_newline}
use Rattle.glk_gen_laws.proofs.LineLists.{line_trimmed, line_lists}

-- the lines of a range of packages, and the empty one behind the last newline
split_range : (a m : ℕ) → a + m ≤ 2 ^ 64 → slice_split (λ b. b == 10) (flat_map config_line (range_with_len a m)) ≡ map line_of (range_with_len a m) ++ [] ∷ []
split_range a zero small = slice_split_none (λ b. b == 10) [] (All-nil _)
split_range a (suc m) small =
    let more : List ℕ = flat_map config_line (range_with_len (a + 1) m) in
    ap (slice_split (λ b. b == 10)) (append_assoc (line_of a) (10 ∷ []) more)
    ∙ slice_split_at (λ b. b == 10) (line_of a) 10 more (line_without_newline a (omega arith)) refl
    ∙ ap (λ ls. line_of a ∷ ls) (split_range (a + 1) m (omega arith))

pub lines_are : (n : ℕ) → n ≤ function_limit → config_lines n ≡ map line_of (packages n) ++ [] ∷ []
unfolding importcfg_of lines
lines_are n few = split_range 0 (package_count n) (omega arith)

lines_count : (n : ℕ) → n ≤ function_limit → length (config_lines n) ≡ package_count n + 1
lines_count n few = omega (arith, ap length (lines_are n few), length-append (map line_of (packages n)) ([] ∷ []), length-map-range_with_len line_of 0 (package_count n))

-- line k
line_is : (n k : ℕ) → n ≤ function_limit → k < package_count n → line_at (config_lines n) k ≡ line_of k
line_is n k few inside =
    let ls : List (List ℕ) = map line_of (packages n) in
    let count : length ls ≡ package_count n = length-map-range_with_len line_of 0 (package_count n) in
    ap trimmed_line (ap (λ xs. get_or xs k []) (lines_are n few) ∙ get_or_append_left ls ([] ∷ []) [] k (omega arith)
    ∙ get_or-map-range_with_len line_of 0 (package_count n) k k [] inside (omega arith)) ∙ line_trimmed k

-- the last line
last_is : (n : ℕ) → n ≤ function_limit → line_at (config_lines n) (package_count n) ≡ []
unfolding trimmed_line
last_is n few =
    let ls : List (List ℕ) = map line_of (packages n) in
    let count : length ls ≡ package_count n = length-map-range_with_len line_of 0 (package_count n) in
    ap trimmed_line (ap (λ xs. get_or xs (package_count n) []) (lines_are n few) ∙ ap (λ k. get_or (ls ++ [] ∷ []) k []) (sym count) ∙ get_or-append_seam ls [] [] [])

which : (k m : ℕ) → k < m + 1 → (k < m) ⊎ (k ≡ m)
which k m inside = grind arith

-- another line lists another path
same_path : (k j : ℕ) (other : List ℕ) → k < 2 ^ 64 → j < 2 ^ 64 → Lists (line_of j) (package_path k) other → k ≡ j
same_path k j other small fine lists = decimal_injective k j small fine (ap (drop 1) (lists.path_is ∙ sym (line_lists j fine).path_is))

empty_lists_none : (path file : List ℕ) → Lists [] path file → ⊥
empty_lists_none path file lists = let bad : false ≡ true = lists.word in cc

later_lists : (n k j : ℕ) (other : List ℕ) → n ≤ function_limit → k < package_count n → k < j → (j < package_count n) ⊎ (j ≡ package_count n)
    → Lists (line_at (config_lines n) j) (package_path k) other → ⊥
later_lists n k j other few inside behind (inl within) lists =
    let same : k ≡ j = same_path k j other (omega arith) (omega arith) (subst (λ (line : List ℕ). Lists line (package_path k) other) (line_is n j few within) lists) in
    omega arith
later_lists n k j other few inside behind (inr end) lists =
    empty_lists_none (package_path k) other (subst (λ (line : List ℕ). Lists line (package_path k) other) (ap (line_at (config_lines n)) end ∙ last_is n few) lists)

good_line : (n k : ℕ) → n ≤ function_limit → (k < package_count n) ⊎ (k ≡ package_count n) → IsGoodLine (config_lines n) k
good_line n k few (inl inside) = subst IsGood (sym (line_is n k few inside)) (inr (inr (package_path k, package_file k, line_lists k (omega arith))))
good_line n k few (inr end) = subst IsGood (sym (ap (line_at (config_lines n)) end ∙ last_is n few)) (inl refl)

package_line : (n k : ℕ) → n ≤ function_limit → k < package_count n → IsLast (config_lines n) (length (config_lines n)) (package_path k) (package_file k)
package_line n k few inside = record {
  line = k;
  inside = omega (arith, lines_count n few);
  lists = subst (λ (line : List ℕ). Lists line (package_path k) (package_file k)) (sym (line_is n k few inside)) (line_lists k (omega arith));
  later = λ j other behind within lists. later_lists n k j other few inside behind (which j (package_count n) (omega (arith, lines_count n few, within))) lists;
}

pub lists_all : (n : ℕ) → n ≤ function_limit → ListsPackages n
lists_all n few = record {
  good = λ k inside. good_line n k few (which k (package_count n) (omega (arith, lines_count n few, inside)));
  files = λ k inside. package_line n k few inside;
}
