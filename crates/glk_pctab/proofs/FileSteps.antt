-- Steps of marking the files that functions name.
use Rattle.std.proofs.Common.{◌≡◌, ◌≢◌, ◌∙◌, ℕ, zero, suc, ◌+◌, ◌-◌, ◌<◌, ◌≤◌, List, [], ◌∷◌, ◌++◌, length, take, drop, set, get_or, Option, Some, None, cond, refl, sym, ap, subst, arith, append_assoc, length-append, drop-cons, true, false, Bool, ℤ, replicate, inl, inr, get_or-set_other, get_or-set_same}
use Rattle.std.specs.Prelude.{◌==◌}
use Rattle.std.proofs.lemmas.List.{map-append, append-nil, drop_all, length-map, get_or-replicate, get_or_past, length-replicate, take_all}
use Rattle.std.proofs.lemmas.Bool.{cases_lt}
use denote.Ref.{Bor}
use Rattle.glk_pcval.specs.Table.{ranges}
use Rattle.glk_pctab.specs.Functions.{entry_of, entries_of, entries_named, first_entry, unit_files}
use Rattle.glk_pctab.specs.Section.{is_number_among, entries_from, files_of}
use Rattle.glk_pctab.specs.declared.function.Function.{Function as FunctionValue}
use Rattle.glk_pctab.specs.Views.{texts_of, units_view, functions_view}
use Rattle.glk_pctab.proofs.ListLemmas.{rest_is, none_left}
use Rattle.glk_pctab.specs.Building.{firsts_from, entries_view, entries_by, file_view, AllHaveUnit}

-- ---- files of units
pub files_more : (now files : List (Bor (List ℕ))) (u : Bor (List (Bor (List ℕ)))) (us : List (Bor (List (Bor (List ℕ))))) (whole : List (List ℕ)) → now ≡ files ++ u.now
    → texts_of files ++ files_of (units_view (u ∷ us)) ≡ whole → texts_of now ++ files_of (units_view us) ≡ whole
files_more now files u us whole pushed before =
    ap (λ (s : List (Bor (List ℕ))). texts_of s ++ files_of (units_view us)) pushed
    ∙ ap (λ (s : List (List ℕ)). s ++ files_of (units_view us)) (map-append (λ (b : Bor (List ℕ)). b.now) files u.now)
    ∙ append_assoc (texts_of files) (texts_of u.now) (files_of (units_view us)) ∙ before

pub files_done : (files : List (Bor (List ℕ))) (whole : List (List ℕ)) → texts_of files ++ [] ≡ whole → texts_of files ≡ whole
files_done files whole before = sym (append-nil (texts_of files)) ∙ before

-- ---- first entries
pub first_get : (us : List (List (List ℕ))) (n u : ℕ) → u < length us → get_or (firsts_from n us) u 0 ≡ n + first_entry us u
first_get [] n u inside = absurd (omega arith)
first_get (files ∷ us) n zero inside = omega arith
first_get (files ∷ us) n (suc u) inside = first_get us (n + length files) u (omega arith) ∙ (omega arith)

pub length_firsts : (us : List (List (List ℕ))) (n : ℕ) → length (firsts_from n us) ≡ length us
length_firsts [] n = refl
length_firsts (files ∷ us) n = ap suc (length_firsts us (n + length files))

pub unit_ends : (us : List (List (List ℕ))) (u : ℕ) → u < length us → first_entry us u + length (unit_files us u) ≤ length (files_of us)
unit_ends [] u inside = absurd (omega arith)
unit_ends (files ∷ us) zero inside = omega (arith, length-append files (files_of us))
unit_ends (files ∷ us) (suc u) inside = omega (arith, length-append files (files_of us), unit_ends us u (omega arith))

pub unit_length : (us : List (Bor (List (Bor (List ℕ))))) (u : ℕ) (d : Bor (List (Bor (List ℕ)))) → u < length us → length (unit_files (units_view us) u) ≡ length (get_or us u d).now
unit_length [] u d inside = absurd (omega arith)
unit_length (x ∷ us) zero d inside = length-map x.now (λ (b : Bor (List ℕ)). b.now)
unit_length (x ∷ us) (suc u) d inside = unit_length us u d (omega arith)

-- ---- marks
pub or_or : (a b c : Bool) → cond (cond a true b) true c ≡ cond a true (cond b true c)
or_or true b c = refl
or_or false b c = refl

pub or_none : (a : Bool) → cond a true false ≡ a
or_none true = refl
or_none false = refl

pub number_append : (xs ys : List ℕ) (k : ℕ) → is_number_among (xs ++ ys) k ≡ cond (is_number_among xs k) true (is_number_among ys k)
number_append [] ys k = refl
number_append (x ∷ xs) ys k = ap (λ (b : Bool). cond (x == k) true b) (number_append xs ys k) ∙ sym (or_or (x == k) (is_number_among xs k) (is_number_among ys k))

abbrev pub Marks : List Bool → List ℕ → List Bool → Type 0
Marks before entries now = (k : ℕ) → get_or now k false ≡ cond (get_or before k false) true (is_number_among entries k)

pub marks_none : (xs : List Bool) → Marks xs [] xs
marks_none xs = λ k. sym (or_none (get_or xs k false))

pub marks_more : (xs ys zs : List Bool) (es fs : List ℕ) → Marks xs es ys → Marks ys fs zs → Marks xs (es ++ fs) zs
marks_more xs ys zs es fs first second =
    λ k. second k ∙ ap (λ (b : Bool). cond b true (is_number_among fs k)) (first k) ∙ or_or (get_or xs k false) (is_number_among es k) (is_number_among fs k)
    ∙ ap (λ (b : Bool). cond (get_or xs k false) true b) (sym (number_append es fs k))

or_any : (b : Bool) → true ≡ cond b true true
or_any true = refl
or_any false = refl

mark_by : (b : Bool) (xs : List Bool) (e k : ℕ) → (e == k) ≡ b → e < length xs → get_or (set xs e true) k false ≡ cond (get_or xs k false) true (cond b true false)
mark_by true xs e k is inside =
    let same : e ≡ k = grind (arith, is) in
    let low : e < length xs = inside in
    subst (λ (j : ℕ). get_or (set xs e true) j false ≡ cond (get_or xs j false) true true) same (rw get_or-set_same (or_any (get_or xs e false)))
mark_by false xs e k is inside =
    let differ : k ≢ e = grind (arith, is) in
    rw get_or-set_other (sym (or_none (get_or xs k false)))

pub mark_one : (xs : List Bool) (e : ℕ) → e < length xs → Marks xs (e ∷ []) (set xs e true)
mark_one xs e inside = λ k. mark_by (e == k) xs e k refl inside

-- ---- entries
pub entries_same : (named : List Bool) (list : List ℕ) (k : ℕ) (files : List (List ℕ)) → ((j : ℕ) → get_or named j false ≡ is_number_among list j) → entries_by named k files ≡ entries_from list k files
unfolding entries_from
entries_same named list k [] same = refl
entries_same named list k (file ∷ files) same = rw (same k) (ap (λ (es : List (Option (List ℕ))). cond (is_number_among list k) (Some file) None ∷ es) (entries_same named list (k + 1) files same))

pub entries_more : (named : List Bool) (files : List (List ℕ)) (k : ℕ) (now entries : List (Option (Bor (List ℕ)))) (e : Option (Bor (List ℕ))) (whole : List (Option (List ℕ))) → k < length files
    → now ≡ entries ++ e ∷ [] → file_view e ≡ cond (get_or named k false) (Some (get_or files k [])) None
    → entries_view entries ++ entries_by named k (drop k files) ≡ whole → entries_view now ++ entries_by named (k + 1) (drop (k + 1) files) ≡ whole
entries_more named files k now entries e whole inside pushed is before =
    let one : k + 1 ≡ suc k = omega arith in
    let next : entries_by named k (drop k files) ≡ file_view e ∷ entries_by named (k + 1) (drop (suc k) files) = rw (drop-cons files k [] inside, is) refl in
    let split : entries_by named k (drop k files) ≡ file_view e ∷ entries_by named (k + 1) (drop (k + 1) files) = next ∙ ap (λ (n : ℕ). file_view e ∷ entries_by named (k + 1) (drop n files)) (sym one) in
    ap (λ (s : List (Option (Bor (List ℕ)))). entries_view s ++ entries_by named (k + 1) (drop (k + 1) files)) pushed
    ∙ ap (λ (s : List (Option (List ℕ))). s ++ entries_by named (k + 1) (drop (k + 1) files)) (map-append file_view entries (e ∷ []))
    ∙ append_assoc (entries_view entries) (file_view e ∷ []) (entries_by named (k + 1) (drop (k + 1) files))
    ∙ ap (λ (s : List (Option (List ℕ))). entries_view entries ++ s) (sym split) ∙ before

pub entries_done : (named : List Bool) (files : List (List ℕ)) (k : ℕ) (entries : List (Option (List ℕ))) (whole : List (Option (List ℕ))) → length files ≤ k → entries ++ entries_by named k (drop k files) ≡ whole → entries ≡ whole
entries_done named files k entries whole past before =
    sym (append-nil entries) ∙ ap (λ (fs : List (List ℕ)). entries ++ entries_by named k fs) (sym (drop_all k files past)) ∙ before

-- ---- the first of a list is done, and the others are left
pub unit_next : (now files : List (Bor (List ℕ))) (us : List (Bor (List (Bor (List ℕ))))) (d : Bor (List (Bor (List ℕ)))) (whole : List (List ℕ)) → 1 ≤ length us → now ≡ files ++ (get_or us 0 d).now
    → texts_of files ++ files_of (units_view us) ≡ whole → texts_of now ++ files_of (units_view (take (length us - 1) (drop 1 us))) ≡ whole
unit_next now files [] d whole some pushed before = absurd (omega arith)
unit_next now files (u ∷ us) d whole some pushed before = rw (rest_is u us) (files_more now files u us whole pushed before)

pub unit_end : (files : List (Bor (List ℕ))) (us : List (Bor (List (Bor (List ℕ))))) (whole : List (List ℕ)) → length us < 1 → texts_of files ++ files_of (units_view us) ≡ whole → texts_of files ≡ whole
unit_end files us whole none before = files_done files whole (ap (λ (xs : List (Bor (List (Bor (List ℕ))))). texts_of files ++ files_of (units_view xs)) (sym (none_left us none)) ∙ before)

pub first_next : (now firsts : List ℕ) (index next : ℕ) (us : List (Bor (List (Bor (List ℕ))))) (d : Bor (List (Bor (List ℕ)))) (whole : List ℕ) → 1 ≤ length us → now ≡ firsts ++ index ∷ [] → next ≡ index + length (get_or us 0 d).now
    → firsts ++ firsts_from index (units_view us) ≡ whole → now ++ firsts_from next (units_view (take (length us - 1) (drop 1 us))) ≡ whole
first_next now firsts index next [] d whole some pushed step before = absurd (omega arith)
first_next now firsts index next (u ∷ us) d whole some pushed step before =
    let size : next ≡ index + length (texts_of u.now) = omega (arith, step, length-map u.now (λ (b : Bor (List ℕ)). b.now)) in
    rw (rest_is u us) (ap (λ (n : ℕ). now ++ firsts_from n (units_view us)) size ∙ ap (λ (s : List ℕ). s ++ firsts_from (index + length (texts_of u.now)) (units_view us)) pushed
    ∙ append_assoc firsts (index ∷ []) (firsts_from (index + length (texts_of u.now)) (units_view us)) ∙ before)

pub index_next : (index next whole : ℕ) (us : List (Bor (List (Bor (List ℕ))))) (d : Bor (List (Bor (List ℕ)))) → 1 ≤ length us → next ≡ index + length (get_or us 0 d).now
    → index + length (files_of (units_view us)) ≡ whole → next + length (files_of (units_view (take (length us - 1) (drop 1 us)))) ≡ whole
index_next index next whole [] d some step before = absurd (omega arith)
index_next index next whole (u ∷ us) d some step before = rw (rest_is u us) (omega (arith, step, before, length-append (texts_of u.now) (files_of (units_view us)), length-map u.now (λ (b : Bor (List ℕ)). b.now)))

pub index_fits : (index whole : ℕ) (us : List (Bor (List (Bor (List ℕ))))) (d : Bor (List (Bor (List ℕ)))) → 1 ≤ length us → index + length (files_of (units_view us)) ≡ whole → index + length (get_or us 0 d).now ≤ whole
index_fits index whole [] d some before = absurd (omega arith)
index_fits index whole (u ∷ us) d some before = omega (arith, before, length-append (texts_of u.now) (files_of (units_view us)), length-map u.now (λ (b : Bor (List ℕ)). b.now))

pub first_end : (firsts : List ℕ) (index : ℕ) (us : List (Bor (List (Bor (List ℕ))))) (whole : List ℕ) → length us < 1 → firsts ++ firsts_from index (units_view us) ≡ whole → firsts ≡ whole
first_end firsts index us whole none before = sym (append-nil firsts) ∙ ap (λ (xs : List (Bor (List (Bor (List ℕ))))). firsts ++ firsts_from index (units_view xs)) (sym (none_left us none)) ∙ before

-- ---- functions
abbrev pub MarksLeft : List Bool → List Bool → List ℕ → List ℕ → Type 0
MarksLeft now start left all = (k : ℕ) → cond (get_or now k false) true (is_number_among left k) ≡ cond (get_or start k false) true (is_number_among all k)

pub marks_left : (before now start : List Bool) (es left all : List ℕ) → Marks before es now → MarksLeft before start (es ++ left) all → MarksLeft now start left all
marks_left before now start es left all step rest =
    λ k. ap (λ (b : Bool). cond b true (is_number_among left k)) (step k) ∙ or_or (get_or before k false) (is_number_among es k) (is_number_among left k)
    ∙ ap (λ (b : Bool). cond (get_or before k false) true b) (sym (number_append es left k)) ∙ rest k

pub marks_end : (now start : List Bool) (all : List ℕ) → MarksLeft now start [] all → Marks start all now
marks_end now start all rest = λ k. sym (or_none (get_or now k false)) ∙ rest k

pub function_next : (units : List (List (List ℕ))) (before now start : List Bool) (fs : List FunctionValue) (d : FunctionValue) (first count : ℕ) (all : List ℕ) → 1 ≤ length fs
    → Marks before (entries_of first count (ranges (get_or fs 0 d).pcfile.now)) now → first ≡ first_entry units (get_or fs 0 d).unit → count ≡ length (unit_files units (get_or fs 0 d).unit)
    → MarksLeft before start (entries_named units (functions_view fs)) all → MarksLeft now start (entries_named units (functions_view (take (length fs - 1) (drop 1 fs)))) all
unfolding entries_named
function_next units before now start [] d first count all some step e n rest = absurd (omega arith)
function_next units before now start (f ∷ fs) d first count all some step e n rest =
    let es = entries_of (first_entry units f.unit) (length (unit_files units f.unit)) (ranges f.pcfile.now) in
    let same : entries_of first count (ranges f.pcfile.now) ≡ es = ap (λ (k : ℕ). entries_of k count (ranges f.pcfile.now)) e ∙ ap (λ (k : ℕ). entries_of (first_entry units f.unit) k (ranges f.pcfile.now)) n in
    rw (rest_is f fs) (marks_left before now start es (entries_named units (functions_view fs)) all (subst (λ (xs : List ℕ). Marks before xs now) same step) rest)

pub function_end : (units : List (List (List ℕ))) (now start : List Bool) (fs : List FunctionValue) (all : List ℕ) → length fs < 1 → MarksLeft now start (entries_named units (functions_view fs)) all → Marks start all now
unfolding entries_named
function_end units now start fs all none rest = marks_end now start all (subst (λ (xs : List FunctionValue). MarksLeft now start (entries_named units (functions_view xs)) all) (none_left fs none) rest)

pub unit_first : (n : ℕ) (fs : List FunctionValue) (d : FunctionValue) → 1 ≤ length fs → AllHaveUnit n (functions_view fs) → ((get_or fs 0 d).unit < n) × AllHaveUnit n (functions_view (take (length fs - 1) (drop 1 fs)))
unit_first n [] d some all = absurd (omega arith)
unit_first n (f ∷ fs) d some all = (all.0, rw (rest_is f fs) all.1)

pub texts_counted : (fs : List (Bor (List ℕ))) → length (texts_of fs) ≡ length fs
texts_counted fs = length-map fs (λ (b : Bor (List ℕ)). b.now)

-- ---- values of a pc table
pub value_next : (before now start : List Bool) (first count end : ℕ) (value : ℤ) (rs left : List (ℤ × ℕ)) (all : List ℕ) → rs ≡ (value, end) ∷ left → Marks before (entry_of first count value) now
    → MarksLeft before start (entries_of first count rs) all → MarksLeft now start (entries_of first count left) all
unfolding entries_of
value_next before now start first count end value rs left all is step rest =
    marks_left before now start (entry_of first count value) (entries_of first count left) all step (subst (λ (xs : List (ℤ × ℕ)). MarksLeft before start (entries_of first count xs) all) is rest)

pub value_end : (now start : List Bool) (first count : ℕ) (rs : List (ℤ × ℕ)) (all : List ℕ) → rs ≡ [] → MarksLeft now start (entries_of first count rs) all → Marks start all now
unfolding entries_of
value_end now start first count rs all is rest = marks_end now start all (subst (λ (xs : List (ℤ × ℕ)). MarksLeft now start (entries_of first count xs) all) is rest)

-- ---- where the entries of a unit are
abbrev pub blank : FunctionValue
blank = record { name = record { ref_ptr = (0, 0); now = [] }; pcsp = record { ref_ptr = (0, 0); now = [] }; pcfile = record { ref_ptr = (0, 0); now = [] }; pcline = record { ref_ptr = (0, 0); now = [] }; pcinline = record { ref_ptr = (0, 0); now = [] }; inlined = record { ref_ptr = (0, 0); now = [] }; pcdata = record { ref_ptr = (0, 0); now = [] }; funcdata = record { ref_ptr = (0, 0); now = [] }; unit = 0; start = 0; args = 0; deferreturn = 0; start_line = 0; id = 0; flag = 0 }

pub firsts_long : (us : List (Bor (List (Bor (List ℕ))))) (firsts : List ℕ) → firsts ≡ firsts_from 0 (units_view us) → length firsts ≡ length us
firsts_long us firsts is = ap (λ (xs : List ℕ). length xs) is ∙ length_firsts (units_view us) 0 ∙ length-map us (λ (u : Bor (List (Bor (List ℕ)))). texts_of u.now)

pub first_is : (us : List (Bor (List (Bor (List ℕ))))) (firsts : List ℕ) (u : ℕ) → u < length us → firsts ≡ firsts_from 0 (units_view us) → get_or firsts u 0 ≡ first_entry (units_view us) u
first_is us firsts u low is =
    let count = length-map us (λ (x : Bor (List (Bor (List ℕ)))). texts_of x.now) in
    let none : 0 + first_entry (units_view us) u ≡ first_entry (units_view us) u = omega arith in
    ap (λ (xs : List ℕ). get_or xs u 0) is ∙ first_get (units_view us) 0 u (omega (arith, low, count)) ∙ none

pub unit_room : (us : List (Bor (List (Bor (List ℕ))))) (firsts : List ℕ) (u n : ℕ) (d : Bor (List (Bor (List ℕ)))) → u < length us → firsts ≡ firsts_from 0 (units_view us) → n ≡ length (files_of (units_view us)) → get_or firsts u 0 + length (get_or us u d).now ≤ n
unit_room us firsts u n d low is same =
    let count = length-map us (λ (x : Bor (List (Bor (List ℕ)))). texts_of x.now) in
    omega (arith, first_is us firsts u low is, unit_ends (units_view us) u (omega (arith, low, count)), unit_length us u d low, same)

-- ---- marks from none on
none_named : (n k : ℕ) → get_or (replicate n false) k false ≡ false
none_named n k = elim (cases_lt k n) [
  | inl low ↦ get_or-replicate n k false false low
  | inr past ↦ get_or_past (replicate n false) k false (omega (arith, past, length-replicate {A = Bool} n false))
]

take_nil : (n : ℕ) (xs : List Bool) → xs ≡ [] → take n xs ≡ []
take_nil n xs none = take_all n xs (omega (arith, ap (λ (ys : List Bool). length ys) none)) ∙ none

pub named_result : (now old items start : List Bool) (list : List ℕ) (count m len k : ℕ) → Marks old list now → old ≡ items → items ≡ take count start ++ replicate m false → start ≡ [] → length now ≡ length old → len ≡ length items
    → get_or (take len (now ++ drop (length now) items)) k false ≡ is_number_among list k
named_result now old items start list count m len k step same filled none long whole =
    let all : length now ≡ length items = long ∙ ap (λ (xs : List Bool). length xs) same in
    let rest : drop (length now) items ≡ [] = drop_all (length now) items (omega (arith, all)) in
    let back : take len (now ++ drop (length now) items) ≡ now = ap (λ (xs : List Bool). take len (now ++ xs)) rest ∙ ap (λ (xs : List Bool). take len xs) (append-nil now) ∙ take_all len now (omega (arith, all, whole)) in
    let zeros : old ≡ replicate m false = same ∙ filled ∙ ap (λ (xs : List Bool). xs ++ replicate m false) (take_nil count start none) in
    let unmarked : get_or old k false ≡ false = ap (λ (xs : List Bool). get_or xs k false) zeros ∙ none_named m k in
    ap (λ (xs : List Bool). get_or xs k false) back ∙ step k ∙ ap (λ (b : Bool). cond b true (is_number_among list k)) unmarked
