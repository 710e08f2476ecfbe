-- The windows of all symbols of the file rise, so their fields can be written.
use Rattle.std.proofs.Common.{◌≡◌, ◌∙◌, ℕ, zero, suc, ◌+◌, ◌-◌, ◌<◌, ◌≤◌, List, [], ◌∷◌, ◌++◌, length, get_or, Bool, true, false, cond, refl, ap, sym, subst, arith, append-nil}
use Rattle.std.specs.Prelude.{All, AllPairs, None}
use Rattle.std.proofs.lemmas.List.Elements.{All-nil, All-push, All-append, All-weaker}
use Rattle.std.proofs.lemmas.List.Quantifiers.{all_pairs_push}
use Rattle.glk_elf.specs.Image.{image_base}
use Rattle.glk_elf.specs.Sections.{text, rodata, noptrdata, written_data}
use Rattle.glk_layout.proofs.InOrder.{sections_in_order}
use Rattle.glk_layout.specs.Layout.{section_start, section_end, IsPlaceable}
use Rattle.glk_merge.specs.Mergings.{IsKey}
use Rattle.glk_placing.proofs.Bounds.{ends_up}
use Rattle.glk_placing.specs.Programs.{PlacedProgram, contents_of, key_at}
use Rattle.glk_reach.specs.RelocFaults.{reloc_fault}
use Rattle.glk_fields.specs.declared.places.FieldPlace.{FieldPlace}
use Rattle.glk_placing.specs.Members.{is_at, indices_in, file_indices}
use Rattle.glk_fields.specs.Places.{AreFieldPlaces, fields_at}
use Rattle.glk_fields.specs.Ready.{AreSoundKeys, EndsInside, AreWritable}
use Rattle.glk_fields.proofs.PlaceLists.{indices_below, index_more}
use Rattle.glk_fields.proofs.SymbolWindows.{window_from, window_to, begins, above, based, ends, before, window}
use Rattle.glk_fields.proofs.Windows.{IsWindow, LiesIn, all_windows, pairs_append}

-- the kept symbols of a section, in order
pub record AreOfSection (s : PlacedProgram) (n m : ℕ) (indices : List ℕ) : Type 0 where
  pub all : All (λ i. (i < m) × (is_at s n i ≡ true)) indices
  pub rising : AllPairs (λ i j. i < j) indices

section_step : (s : PlacedProgram) (n m : ℕ) → AreOfSection s n m (indices_below s n m) → (b : Bool) → is_at s n m ≡ b → AreOfSection s n (m + 1) (indices_below s n (m + 1))
section_step s n m earlier b e =
    let wider : All (λ i. (i < m + 1) × (is_at s n i ≡ true)) (indices_below s n m) =
    All-weaker (λ i. (i < m) × (is_at s n i ≡ true)) (λ i. (i < m + 1) × (is_at s n i ≡ true)) (λ i h. (let a = h.0 in omega (arith, a), h.1)) (indices_below s n m) earlier.all in
    cases b e wider
  where
    cases : (b : Bool) → is_at s n m ≡ b → All (λ i. (i < m + 1) × (is_at s n i ≡ true)) (indices_below s n m) → AreOfSection s n (m + 1) (indices_below s n (m + 1))
    cases false e wider =
        let Q : List ℕ → Type 0 = λ xs. AreOfSection s n (m + 1) xs in
        subst Q (sym (index_more s n m false e ∙ append-nil (indices_below s n m))) (record { all = wider; rising = earlier.rising })
    cases true e wider =
        let Q : List ℕ → Type 0 = λ xs. AreOfSection s n (m + 1) xs in
        let last : m < m + 1 = omega arith in
        subst Q (sym (index_more s n m true e)) (record {
          all = All-push (λ i. (i < m + 1) × (is_at s n i ≡ true)) (indices_below s n m) m wider (last, e);
          rising = all_pairs_push (λ i j. i < j) (indices_below s n m) m earlier.rising (λ k d lt. (earlier.all k d lt).0);
        })

section_indices : (s : PlacedProgram) (n m : ℕ) → AreOfSection s n m (indices_below s n m)
section_indices s n zero = record { all = All-nil (λ i. (i < zero) × (is_at s n i ≡ true)); rising = λ i j d less lt. absurd (omega (arith, lt)) }
section_indices s n (suc m) =
    let P : ℕ → Type 0 = λ k. AreOfSection s n k (indices_below s n k) in
    let up : m + 1 ≡ suc m = omega arith in
    subst P up (section_step s n m (section_indices s n m) (is_at s n m) refl)

-- symbols whose windows rise between two bounds
pub record AreRising (s : PlacedProgram) (low high : ℕ) (indices : List ℕ) : Type 0 where
  pub windows : All (λ i. IsWindow s (window_from s i) (window_to s i) i) indices
  pub pairs : AllPairs (λ i j. window_to s i ≤ window_from s j) indices
  pub lies : All (LiesIn (window_from s) (window_to s) low high) indices

join : (s : PlacedProgram) (low mid next high : ℕ) (xs ys : List ℕ) → low ≤ mid → mid ≤ next → next ≤ high
    → AreRising s low mid xs → AreRising s next high ys → AreRising s low high (xs ++ ys)
join s low mid next high xs ys a b c first second = record {
  windows = All-append (λ i. IsWindow s (window_from s i) (window_to s i) i) xs ys first.windows second.windows;
  pairs = pairs_append (λ i j. window_to s i ≤ window_from s j) xs ys first.pairs second.pairs (λ i j d li lj.
      let x = (first.lies i d li).1.1 in
      let y = (second.lies j d lj).0 in
      omega (arith, x, y, b));
  lies = All-append (LiesIn (window_from s) (window_to s) low high) xs ys
      (λ k d lt. let h = first.lies k d lt in let z = h.1.1 in (h.0, (h.1.0, omega (arith, z, b, c))))
      (λ k d lt. let h = second.lies k d lt in let z = h.0 in (omega (arith, z, a, b), h.1));
}

module _ (s : PlacedProgram) (placeable : IsPlaceable (contents_of s)) (keys : All (IsKey s.program) s.kept) (sound : AreSoundKeys s) where
  abbrev from_bound : ℕ → ℕ
  from_bound n = section_start (contents_of s) n - image_base

  abbrev to_bound : ℕ → ℕ
  to_bound n = section_end (contents_of s) n - image_base

  of_section : (n : ℕ) → text ≤ n → n ≤ written_data → AreRising s (from_bound n) (to_bound n) (indices_in s n)
  of_section n low high =
      let are = section_indices s n (length s.kept) in
      record {
        windows = λ k d lt.
            let here = are.all k d lt in
            let i : ℕ = get_or (indices_in s n) k d in
            window s placeable n i low high here.0 here.1 (keys i 0 here.0) (sound i 0 here.0);
        pairs = λ x y d less lt.
            let one = are.all x d (omega (arith, less, lt)) in
            let other = are.all y d lt in
            let i : ℕ = get_or (indices_in s n) x d in
            let j : ℕ = get_or (indices_in s n) y d in
            let bi = begins s placeable n i low high one.0 one.1 in
            let bj = begins s placeable n j low high other.0 other.1 in
            let next = before s placeable n i low high one.0 one.1 j (are.rising x y d less lt) other.0 in
            let a = above s placeable n i low high one.0 one.1 in
            let b = based s placeable n i low high one.0 one.1 in
            omega (arith, bi, bj, next, a, b);
        lies = λ k d lt.
            let here = are.all k d lt in
            let i : ℕ = get_or (indices_in s n) k d in
            let bi = begins s placeable n i low high here.0 here.1 in
            let a = above s placeable n i low high here.0 here.1 in
            let b = based s placeable n i low high here.0 here.1 in
            let e = ends s placeable n i low high here.0 here.1 in
            (omega (arith, bi, a), (omega arith, omega (arith, bi, a, b, e)));
      }

  -- a section ends before a later one starts
  section_before : (n m : ℕ) → text ≤ n → n < m → m ≤ written_data → section_end (contents_of s) n ≤ section_start (contents_of s) m
  section_before n m low less high =
      let P : ℕ → Type 0 = λ k. section_end (contents_of s) n ≤ section_end (contents_of s) k in
      let Q : ℕ → Type 0 = λ k. section_end (contents_of s) (m - 1) ≤ section_start (contents_of s) k in
      let e : n + (m - 1 - n) ≡ m - 1 = omega arith in
      let f : m - 1 + 1 ≡ m = omega arith in
      let up : section_end (contents_of s) n ≤ section_end (contents_of s) (m - 1) = subst P e (ends_up (contents_of s) n (m - 1 - n) placeable) in
      let next : section_end (contents_of s) (m - 1) ≤ section_start (contents_of s) m = subst Q f (sections_in_order (contents_of s) (m - 1) placeable (omega arith) (omega arith)).1 in
      omega (arith, up, next)

  bounds_rise : (n : ℕ) → text ≤ n → n ≤ written_data → from_bound n ≤ to_bound n
  bounds_rise n low high = let order = (sections_in_order (contents_of s) n placeable low (omega arith)).0 in omega (arith, order)

  bounds_apart : (n m : ℕ) → text ≤ n → n < m → m ≤ written_data → to_bound n ≤ from_bound m
  bounds_apart n m low less high = let h = section_before n m low less high in omega (arith, h)

  of_file : AreRising s (from_bound text) (to_bound written_data) (file_indices s)
  of_file =
      let t = bounds_rise text (omega arith) (omega arith) in
      let r = bounds_rise rodata (omega arith) (omega arith) in
      let q = bounds_rise noptrdata (omega arith) (omega arith) in
      let w = bounds_rise written_data (omega arith) (omega arith) in
      let tr = bounds_apart text rodata (omega arith) (omega arith) (omega arith) in
      let rq = bounds_apart rodata noptrdata (omega arith) (omega arith) (omega arith) in
      let qw = bounds_apart noptrdata written_data (omega arith) (omega arith) (omega arith) in
      let two = join s (from_bound text) (to_bound text) (from_bound rodata) (to_bound rodata) (indices_in s text) (indices_in s rodata) t tr r
      (of_section text (omega arith) (omega arith)) (of_section rodata (omega arith) (omega arith)) in
      let three = join s (from_bound text) (to_bound rodata) (from_bound noptrdata) (to_bound noptrdata) (indices_in s text ++ indices_in s rodata) (indices_in s noptrdata) (omega (arith, t, tr, r)) rq q
      two (of_section noptrdata (omega arith) (omega arith)) in
      join s (from_bound text) (to_bound noptrdata) (from_bound written_data) (to_bound written_data) (indices_in s text ++ indices_in s rodata ++ indices_in s noptrdata) (indices_in s written_data) (omega (arith, t, tr, r, rq, q)) qw w
      three (of_section written_data (omega arith) (omega arith))

  whole_bounds : from_bound text ≤ to_bound written_data
  whole_bounds =
      let t = bounds_rise text (omega arith) (omega arith) in
      let tw = bounds_apart text written_data (omega arith) (omega arith) (omega arith) in
      let w = bounds_rise written_data (omega arith) (omega arith) in
      omega (arith, t, tw, w)

  pub writable : (places : List FieldPlace) → AreFieldPlaces s places → All (EndsInside s) places → AreWritable s (fields_at s places)
  writable places are inside =
      let file = of_file in
      let all = all_windows s (window_from s) (window_to s) (from_bound text) (to_bound written_data) (file_indices s) places whole_bounds file.windows file.pairs file.lies are inside in
      record { sized = all.sized; apart = all.apart; inside = all.inside }
