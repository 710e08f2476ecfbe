-- The symbols that are listed, and their lines.
use Rattle.std.proofs.Common.{◌≡◌, ◌<◌, ◌≤◌, ◌+◌, ◌-◌, ℕ, zero, suc, List, [], ◌∷◌, ◌++◌, length, get_or, take, drop, Bool, true, false, cond, Some, inl, inr, eq-zero-or-pos, append_assoc, refl, sym, ap, subst, ◌∙◌, arith, add-one, map}
use Rattle.std.specs.Prelude.{filter, IsPermutation}
use Rattle.std.specs.Option.{option_to_list}
use Rattle.std.proofs.Math.Seq.{take-suc}
use Rattle.std.proofs.lemmas.Grind.{flat_map-append}
use Rattle.std.proofs.lemmas.List.Elements.{filter-append}
use Rattle.std.specs.List.Sorted.{IsSortedByKey, IsStableByKey, ties}
use Rattle.std.specs.Ordering.{nat_cmp, is_lt}
use Rattle.std.specs.Cmp.{IsTotalOrder}
use Rattle.std.specs.declared.cmp.Ordering.{Ordering}
use Rattle.std.proofs.Math.ListN.{get_or-map}
use Rattle.std.proofs.lemmas.Cmp.{nat_cmp_total, nat_list_cmp_total, back_total}
use Rattle.std.proofs.lemmas.List.{length-map, map-append, append-nil, take-append-drop}
use Rattle.std.proofs.lemmas.List.Sorted.{IsPermutation-map, ranks_by}
use Rattle.glk_elf.specs.ReaderSections.{FileSymbol, symbols, symbol_numbered}
use Rattle.glk_elf.specs.ReaderViews.{symbol_record}
use Rattle.glk_elf.specs.declared.read.symbols.ElfSym.{ElfSym}
use Rattle.glk_nm.specs.Listing.{first_symbols, is_listed, listed_symbols, falling, name_cmp, IsOrderedBy, IsInOrder, lines_of, IsOneNmText}
use Rattle.glk_nm.specs.declared.options.NmSort.{NmSort}
use Rattle.glk_nm.specs.declared.options.NmSort.TheVariants as by
use Rattle.glk_nm.proofs.SortedOnce.{sorted_once}
use Rattle.glk_io.specs.Changes.{SinkState, SinkFails}
use Rattle.glk_nm.specs.Lines.{line_of}
use Rattle.glk_pending.specs.Writing.{IsPartlyWritten}
use Rattle.glk_pending.proofs.WritingLemmas.{more_written, more_fails, fails_early}

-- a symbol of a file as the code has it
abbrev code_symbol : FileSymbol → ElfSym
code_symbol s = record { name = record { ref_ptr = (0, 0); now = s.name }; info = s.info; section = s.section; value = s.value; size = s.size }

filter_map_commute : {X Y : Type 0} (f : X → Y) (p : Y → Bool) (xs : List X) → filter p (map f xs) ≡ map f (filter (λ x. p (f x)) xs)
filter_map_commute f p [] = refl
filter_map_commute f p (x ∷ xs) =
    elim (p (f x)) as (λ b. cond b (f x ∷ filter p (map f xs)) (filter p (map f xs)) ≡ map f (cond b (x ∷ filter (λ z. p (f z)) xs) (filter (λ z. p (f z)) xs)))
    [ true ↦ ap (λ t. f x ∷ t) (filter_map_commute f p xs) | false ↦ filter_map_commute f p xs ]

-- symbols of the code that are sorted are those of the file in order
pub ordered : {K : Type 0} (key : FileSymbol → K) (cmp : K → K → Ordering) (xs ys : List ElfSym) → IsPermutation xs ys
    → IsSortedByKey (λ x. key (symbol_record x)) cmp ys → IsStableByKey (λ x. key (symbol_record x)) cmp xs ys
    → IsOrderedBy key cmp (map symbol_record xs) (map symbol_record ys)
ordered {K} key cmp xs ys all up stable =
    let lt = λ (x y : FileSymbol). is_lt (cmp (key x) (key y)) in
    record {
      all = IsPermutation-map symbol_record xs ys all;
      sorted = λ k d low high.
          let inside : k + 1 < length ys = omega (arith, length-map ys symbol_record) in
          let at = λ (n : ℕ). sym (get_or-map symbol_record ys n (code_symbol d)) in
          subst (λ (v : FileSymbol). lt v (get_or (map symbol_record ys) k d) ≡ false) (at (k + 1))
          (subst (λ (v : FileSymbol). lt (symbol_record (get_or ys (k + 1) (code_symbol d))) v ≡ false) (at k) (up k (code_symbol d) low inside));
      ties = λ x.
          filter_map_commute symbol_record (ties lt x) ys ∙ ap (map symbol_record) (stable (code_symbol x)) ∙ sym (filter_map_commute symbol_record (ties lt x) xs);
    }

-- there is one order by a key
ordered_once : {K : Type 0} (key : FileSymbol → K) (cmp : K → K → Ordering) → IsTotalOrder cmp → (table one other : List FileSymbol)
    → IsOrderedBy key cmp table one → IsOrderedBy key cmp table other → one ≡ other
ordered_once key cmp total table one other h k =
    sorted_once (λ x y. is_lt (cmp (key x) (key y))) (ranks_by total key) one other h.sorted k.sorted (λ z. h.ties z ∙ sym (k.ties z))

in_order_once : (sort : NmSort) (table one other : List FileSymbol) → IsInOrder sort table one → IsInOrder sort table other → one ≡ other
in_order_once by.Address table one other h k = ordered_once (λ s. s.value) nat_cmp nat_cmp_total table one other h k
in_order_once by.Name table one other h k = ordered_once (λ s. s.name) name_cmp nat_list_cmp_total table one other h k
in_order_once by.Plain table one other h k = h ∙ sym k
in_order_once by.Size table one other h k = ordered_once (λ s. s.size) falling (back_total nat_cmp_total) table one other h k

pub one_text : IsOneNmText
one_text opts file one other h k =
    h.lines ∙ ap (lines_of file opts.size) (in_order_once opts.sort (listed_symbols file) h.rows k.rows h.in_order k.in_order) ∙ sym k.lines

-- one more symbol of the table
pub first_more : (file : List ℕ) (k : ℕ) (s : FileSymbol) → symbol_numbered file k ≡ Some s → first_symbols file (k + 1) ≡ first_symbols file k ++ s ∷ []
first_more file k s is =
    ap (first_symbols file) (add-one k) ∙ ap (λ o. first_symbols file k ++ option_to_list o) is

-- the first symbols are the start of more
first_split : (file : List ℕ) (k n : ℕ) → k ≤ n → (later : List FileSymbol) × (first_symbols file n ≡ first_symbols file k ++ later)
first_split file zero zero le = ([], refl)
first_split file (suc k) zero le = absurd (omega arith)
first_split file k (suc n) le =
    elim (eq-zero-or-pos (suc n - k)) [
      | inl z ↦
          let e : k ≡ suc n = omega arith in
          ([], rw e (sym (append-nil (first_symbols file (suc n)))))
      | inr more ↦
          let h = first_split file k n (omega arith) in (
            h.0 ++ option_to_list (symbol_numbered file n),
            ap (λ t. t ++ option_to_list (symbol_numbered file n)) h.1 ∙ append_assoc (first_symbols file k) h.0 (option_to_list (symbol_numbered file n)),
          )
    ]

-- the lines of symbols that follow one another
lines_append : (file : List ℕ) (with_size : Bool) (xs ys : List FileSymbol) → lines_of file with_size (xs ++ ys) ≡ lines_of file with_size xs ++ lines_of file with_size ys
lines_append file with_size xs ys = flat_map-append (line_of file with_size) xs ys

abbrev pub table_lines : List ℕ → Bool → List FileSymbol → List ℕ
table_lines file with_size table = lines_of file with_size (filter is_listed table)

table_append : (file : List ℕ) (with_size : Bool) (xs ys : List FileSymbol) → table_lines file with_size (xs ++ ys) ≡ table_lines file with_size xs ++ table_lines file with_size ys
table_append file with_size xs ys =
    ap (lines_of file with_size) (filter-append is_listed xs ys) ∙ lines_append file with_size (filter is_listed xs) (filter is_listed ys)

module _ (a b c : SinkState) (before between after file : List ℕ) (with_size : Bool) (k : ℕ) (s : FileSymbol) (is : symbol_numbered file k ≡ Some s)
    (h : IsPartlyWritten a b (before ++ table_lines file with_size (first_symbols file k)) between) where
  one_more : table_lines file with_size (first_symbols file (k + 1)) ≡ table_lines file with_size (first_symbols file k) ++ table_lines file with_size (s ∷ [])
  one_more =
      ap (table_lines file with_size) (first_more file k s is) ∙ table_append file with_size (first_symbols file k) (s ∷ [])

  -- one more line of the table
  pub table_more : IsPartlyWritten b c (between ++ table_lines file with_size (s ∷ [])) after
      → IsPartlyWritten a c (before ++ table_lines file with_size (first_symbols file (k + 1))) after
  table_more w =
      subst (λ (t : List ℕ). IsPartlyWritten a c (before ++ t) after) (sym one_more)
      (more_written a b c before between after (table_lines file with_size (first_symbols file k)) (table_lines file with_size (s ∷ [])) h w)

  -- a prefix of one more line is a prefix of all
  pub table_fails : k < symbols file → SinkFails b c (between ++ table_lines file with_size (s ∷ []))
      → SinkFails a c (before ++ lines_of file with_size (listed_symbols file))
  table_fails inside f =
      let part : SinkFails a c (before ++ table_lines file with_size (first_symbols file (k + 1))) =
      subst (λ (t : List ℕ). SinkFails a c (before ++ t)) (sym one_more)
      (more_fails a b c before between after (table_lines file with_size (first_symbols file k)) (table_lines file with_size (s ∷ [])) h f) in
      let split = first_split file (k + 1) (symbols file) (omega arith) in
      let whole : table_lines file with_size (first_symbols file (symbols file)) ≡ table_lines file with_size (first_symbols file (k + 1)) ++ table_lines file with_size split.0 =
      ap (table_lines file with_size) split.1 ∙ table_append file with_size (first_symbols file (k + 1)) split.0 in
      subst (λ (t : List ℕ). SinkFails a c (before ++ t)) (sym whole)
      (fails_early a c before (table_lines file with_size (first_symbols file (k + 1))) (table_lines file with_size split.0) part)

abbrev pub row_lines : List ℕ → Bool → List ElfSym → List ℕ
row_lines file with_size rows = lines_of file with_size (map symbol_record rows)

rows_append : (file : List ℕ) (with_size : Bool) (xs ys : List ElfSym) → row_lines file with_size (xs ++ ys) ≡ row_lines file with_size xs ++ row_lines file with_size ys
rows_append file with_size xs ys =
    ap (lines_of file with_size) (map-append symbol_record xs ys) ∙ lines_append file with_size (map symbol_record xs) (map symbol_record ys)

module _ (a b c : SinkState) (before between after file : List ℕ) (with_size : Bool) (rows : List ElfSym) (n : ℕ) (d : ElfSym) (inside : n < length rows)
    (h : IsPartlyWritten a b (before ++ row_lines file with_size (take n rows)) between) where
  one_row_more : row_lines file with_size (take (n + 1) rows) ≡ row_lines file with_size (take n rows) ++ line_of file with_size (symbol_record (get_or rows n d))
  one_row_more =
      let cut : take (n + 1) rows ≡ take n rows ++ get_or rows n d ∷ [] = rw (add-one n) (take-suc rows n d inside) in
      ap (row_lines file with_size) cut ∙ rows_append file with_size (take n rows) (get_or rows n d ∷ [])
      ∙ ap (λ t. row_lines file with_size (take n rows) ++ t) (append-nil (line_of file with_size (symbol_record (get_or rows n d))))

  -- one more line of symbols
  pub rows_more : IsPartlyWritten b c (between ++ line_of file with_size (symbol_record (get_or rows n d))) after
      → IsPartlyWritten a c (before ++ row_lines file with_size (take (n + 1) rows)) after
  rows_more w =
      subst (λ (t : List ℕ). IsPartlyWritten a c (before ++ t) after) (sym one_row_more)
      (more_written a b c before between after (row_lines file with_size (take n rows)) (line_of file with_size (symbol_record (get_or rows n d))) h w)

  pub rows_fail : SinkFails b c (between ++ line_of file with_size (symbol_record (get_or rows n d)))
      → SinkFails a c (before ++ row_lines file with_size rows)
  rows_fail f =
      let part : SinkFails a c (before ++ row_lines file with_size (take (n + 1) rows)) =
      subst (λ (t : List ℕ). SinkFails a c (before ++ t)) (sym one_row_more)
      (more_fails a b c before between after (row_lines file with_size (take n rows)) (line_of file with_size (symbol_record (get_or rows n d))) h f) in
      let whole : row_lines file with_size rows ≡ row_lines file with_size (take (n + 1) rows) ++ row_lines file with_size (drop (n + 1) rows) =
      ap (row_lines file with_size) (sym (take-append-drop (n + 1) rows)) ∙ rows_append file with_size (take (n + 1) rows) (drop (n + 1) rows) in
      subst (λ (t : List ℕ). SinkFails a c (before ++ t)) (sym whole)
      (fails_early a c before (row_lines file with_size (take (n + 1) rows)) (row_lines file with_size (drop (n + 1) rows)) part)
