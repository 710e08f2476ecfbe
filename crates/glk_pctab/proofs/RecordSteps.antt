-- Steps of writing records and functab.
use Rattle.std.proofs.Common.{◌≡◌, ◌∙◌, ℕ, zero, suc, ◌+◌, ◌-◌, ◌*◌, ◌/◌, ◌%◌, ◌<◌, ◌≤◌, ◌^◌, List, [], ◌∷◌, ◌++◌, length, take, drop, get_or, replicate, Result, Ok, Err, OnOk, refl, sym, ap, subst, arith, append_assoc, length-append, add-one, drop-cons, max}
use Rattle.std.proofs.lemmas.List.{append-nil, drop_all, length-map, replicate-append-replicate}
use Rattle.glk_base.specs.Fields.{fields_bytes, u32, byte}
use Rattle.glk_base.proofs.BytesAt.{length_fields}
use Rattle.glk_frames.specs.Image.{no_funcdata}
use Rattle.glk_frames.specs.Written.{head_fields, u32s_bytes, record_bytes}
use Rattle.glk_frames.proofs.AtLemmas.{length_u32s}
use Rattle.glk_pctab.specs.Functions.{Function, InlinedCall, pcdata_of, funcdata_by, funcdata_of, set_at, first_entry, no_function, tree_offset}
use Rattle.glk_pctab.specs.Section.{record_with, records_from, record_offsets, with_records, functab, starts, next_multiple, zeros_to, table_offset, name_offset}
use Rattle.glk_pctab.specs.declared.function.Function.{Function as FunctionValue}
use Rattle.glk_pctab.specs.Views.{call_view, calls_view, function_view, functions_view}
use Rattle.glk_pctab.proofs.ListLemmas.{rest_is, none_left}
use Rattle.glk_pctab.specs.Sound.{CanWrite}
use Rattle.glk_pctab.specs.Building.{record_length, offsets_from, end_from, AllCanWrite, AllAreSmall, AllHaveUnit}
use Rattle.glk_pctab.proofs.OffsetLemmas.{length_zeros_to, next_above}

-- ---- pcdata and funcdata
pub set_length : {A : Type 0} (d v : A) (k : ℕ) (xs : List A) → length (set_at d v k xs) ≡ max (k + 1) (length xs)
set_length d v zero [] = omega arith
set_length d v zero (x ∷ xs) = omega arith
set_length d v (suc k) [] = omega (arith, set_length d v k [])
set_length d v (suc k) (x ∷ xs) = omega (arith, set_length d v k xs)

pub set_other : {A : Type 0} (d v : A) (k j : ℕ) (xs : List A) → (j ≡ k → ⊥) → get_or (set_at d v k xs) j d ≡ get_or xs j d
set_other d v zero zero xs differ = absurd (differ refl)
set_other d v zero (suc j) [] differ = refl
set_other d v zero (suc j) (x ∷ xs) differ = refl
set_other d v (suc k) zero [] differ = refl
set_other d v (suc k) zero (x ∷ xs) differ = refl
set_other d v (suc k) (suc j) [] differ = set_other d v k j [] (λ e. differ (omega arith))
set_other d v (suc k) (suc j) (x ∷ xs) differ = set_other d v k j xs (λ e. differ (omega arith))

-- ---- numbers in a row
pub u32_next : (out now : List ℕ) (ns : List ℕ) (k n : ℕ) (whole : List ℕ) → k < length ns → n ≡ get_or ns k 0 → now ≡ out ++ fields_bytes (u32 n ∷ []) → out ++ u32s_bytes (drop k ns) ≡ whole → now ++ u32s_bytes (drop (k + 1) ns) ≡ whole
unfolding u32s_bytes
u32_next out now ns k n whole inside is pushed before =
    let split : u32s_bytes (drop k ns) ≡ fields_bytes (u32 n ∷ []) ++ u32s_bytes (drop (k + 1) ns) = rw (add-one, drop-cons ns k 0 inside, is) refl in
    ap (λ s. s ++ u32s_bytes (drop (k + 1) ns)) pushed ∙ append_assoc out (fields_bytes (u32 n ∷ [])) (u32s_bytes (drop (k + 1) ns)) ∙ ap (λ s. out ++ s) (sym split) ∙ before

pub u32_last : (out : List ℕ) (ns : List ℕ) (k : ℕ) (whole : List ℕ) → length ns ≤ k → out ++ u32s_bytes (drop k ns) ≡ whole → out ≡ whole
unfolding u32s_bytes
u32_last out ns k whole past before = sym (append-nil out) ∙ ap (λ (xs : List ℕ). out ++ u32s_bytes xs) (sym (drop_all k ns past)) ∙ before

-- ---- zeros
pub zeros_more : (start out now : List ℕ) (i : ℕ) → out ≡ start ++ replicate i 0 → now ≡ out ++ 0 ∷ [] → now ≡ start ++ replicate (i + 1) 0
zeros_more start out now i before pushed =
    pushed ∙ ap (λ s. s ++ 0 ∷ []) before ∙ append_assoc start (replicate i 0) (0 ∷ []) ∙ ap (λ s. start ++ s) (replicate-append-replicate {A = ℕ} i 1 0)

pub to_4 : (out : List ℕ) (count : ℕ) → count ≡ (4 - length out % 4) % 4 → out ++ replicate count 0 ≡ zeros_to 4 out
unfolding zeros_to next_multiple
to_4 out count is = let e : count ≡ (length out + 3) / 4 * 4 - length out = omega arith in ap (λ n. out ++ replicate n 0) e

pub to_8 : (out : List ℕ) (count : ℕ) → count ≡ (8 - length out % 8) % 8 → out ++ replicate count 0 ≡ zeros_to 8 out
unfolding zeros_to next_multiple
to_8 out count is = let e : count ≡ (length out + 7) / 8 * 8 - length out = omega arith in ap (λ n. out ++ replicate n 0) e

-- ---- lengths
funcdata_long : (calls : List InlinedCall) (a b : ℕ) (f : Function) → length (funcdata_by calls a f) ≡ length (funcdata_by calls b f)
funcdata_long [] a b f = refl
funcdata_long (c ∷ calls) a b f = set_length no_funcdata a 3 f.funcdata ∙ sym (set_length no_funcdata b 3 f.funcdata)

pub length_funcdata : (a b : ℕ) (f : Function) → length (funcdata_of a f) ≡ length (funcdata_of b f)
length_funcdata a b f = funcdata_long f.inlined a b f

pub length_record : (first : ℕ) (ns ts : List (List ℕ)) (tree : ℕ) (f : Function) → length (record_bytes (record_with first ns ts tree f)) ≡ record_length f
unfolding record_bytes
length_record first ns ts tree f =
    let x = record_with first ns ts tree f in
    omega (
      arith,
      length-append (fields_bytes (head_fields x)) (u32s_bytes x.pcdata ++ u32s_bytes x.funcdata),
      length-append (u32s_bytes x.pcdata) (u32s_bytes x.funcdata),
      length_fields (head_fields x),
      length_u32s x.pcdata,
      length_u32s x.funcdata,
      length-map (pcdata_of f) (table_offset ts),
      length_funcdata tree 0 f,
    )

pub offsets_same : (units : List (List (List ℕ))) (ns ts : List (List ℕ)) (tree at : ℕ) (fs : List Function) → record_offsets (records_from units ns ts tree fs) at ≡ offsets_from at fs
unfolding record_offsets records_from offsets_from
offsets_same units ns ts tree at [] = refl
offsets_same units ns ts tree at (f ∷ fs) =
    let size : next_multiple 8 at + length (record_bytes (record_with (first_entry units f.unit) ns ts tree f)) ≡ next_multiple 8 at + record_length f = ap (λ n. next_multiple 8 at + n) (length_record (first_entry units f.unit) ns ts tree f) in
    ap (λ (os : List ℕ). next_multiple 8 at ∷ os) (offsets_same units ns ts (tree + 16 * length f.inlined) (next_multiple 8 at + length (record_bytes (record_with (first_entry units f.unit) ns ts tree f))) fs ∙ ap (λ n. offsets_from n fs) size)

pub length_with_records : (units : List (List (List ℕ))) (ns ts : List (List ℕ)) (tree : ℕ) (before : List ℕ) (fs : List Function) → length (with_records (records_from units ns ts tree fs) before) ≡ end_from (length before) fs
unfolding with_records records_from end_from
length_with_records units ns ts tree before [] = refl
length_with_records units ns ts tree before (f ∷ fs) =
    let r = record_bytes (record_with (first_entry units f.unit) ns ts tree f) in
    let size : length (zeros_to 8 before ++ r) ≡ next_multiple 8 (length before) + record_length f = omega (arith, length-append (zeros_to 8 before) r, length_zeros_to before, length_record (first_entry units f.unit) ns ts tree f) in
    length_with_records units ns ts (tree + 16 * length f.inlined) (zeros_to 8 before ++ r) fs ∙ ap (λ n. end_from n fs) size

pub end_above : (at : ℕ) (fs : List Function) → at ≤ end_from at fs
unfolding end_from
end_above at [] = omega arith
end_above at (f ∷ fs) = omega (arith, next_above at, end_above (next_multiple 8 at + record_length f) fs)

-- ---- records
pub records_more : (units : List (List (List ℕ))) (ns ts : List (List ℕ)) (tree next first : ℕ) (f : Function) (fs : List Function) (out mid now whole : List ℕ)
    → mid ≡ zeros_to 8 out → now ≡ mid ++ record_bytes (record_with first ns ts tree f) → first ≡ first_entry units f.unit → next ≡ tree + 16 * length f.inlined
    → with_records (records_from units ns ts tree (f ∷ fs)) out ≡ whole → with_records (records_from units ns ts next fs) now ≡ whole
unfolding with_records records_from
records_more units ns ts tree next first f fs out mid now whole pad push is step before =
    let bytes : now ≡ zeros_to 8 out ++ record_bytes (record_with (first_entry units f.unit) ns ts tree f) = push ∙ ap (λ s. s ++ record_bytes (record_with first ns ts tree f)) pad ∙ ap (λ n. zeros_to 8 out ++ record_bytes (record_with n ns ts tree f)) is in
    ap (λ n. with_records (records_from units ns ts n fs) now) step ∙ ap (λ s. with_records (records_from units ns ts (tree + 16 * length f.inlined) fs) s) bytes ∙ before

-- bytes that are a multiple of 8 may come before
pub pad_after : (x before : List ℕ) → length x % 8 ≡ 0 → zeros_to 8 (x ++ before) ≡ x ++ zeros_to 8 before
unfolding zeros_to next_multiple
pad_after x before whole =
    let size = length-append x before in
    let e : (length (x ++ before) + 7) / 8 * 8 - length (x ++ before) ≡ (length before + 7) / 8 * 8 - length before = omega (arith, size, whole) in
    append_assoc x before (replicate ((length (x ++ before) + 7) / 8 * 8 - length (x ++ before)) 0) ∙ ap (λ n. x ++ (before ++ replicate n 0)) e

pub records_after_part : (rs : List (List ℕ)) (x before : List ℕ) → length x % 8 ≡ 0 → with_records rs (x ++ before) ≡ x ++ with_records rs before
unfolding with_records
records_after_part [] x before whole = refl
records_after_part (r ∷ rs) x before whole =
    ap (λ s. with_records rs (s ++ r)) (pad_after x before whole) ∙ ap (λ s. with_records rs s) (append_assoc x (zeros_to 8 before) r) ∙ records_after_part rs x (zeros_to 8 before ++ r) whole

-- ---- what functions have
pub all_from : (units from : ℕ) (fs : List Function) → ((i : ℕ) → i < length fs → CanWrite units (tree_offset from fs i) (get_or fs i no_function)) → AllCanWrite units from fs
all_from units from [] each = tt
all_from units from (f ∷ fs) each = (each 0 (omega arith), all_from units (from + 16 * length f.inlined) fs (λ i inside. each (suc i) (omega arith)))

pub all_small : (units from : ℕ) (fs : List Function) → AllCanWrite units from fs → AllAreSmall fs
all_small units from [] all = tt
all_small units from (f ∷ fs) all = (all.0.pcdata, omega (arith, all.0.funcdata, length_funcdata from 0 f), all_small units (from + 16 * length f.inlined) fs all.1)

pub all_units : (units from : ℕ) (fs : List Function) → AllCanWrite units from fs → AllHaveUnit units fs
all_units units from [] all = tt
all_units units from (f ∷ fs) all = (all.0.unit, all_units units (from + 16 * length f.inlined) fs all.1)

-- ---- heads
pub head_is : (first : ℕ) (ns ts : List (List ℕ)) (tree : ℕ) (f : Function) (name a b c n k : ℕ)
    → name ≡ name_offset ns f.name → a ≡ table_offset ts f.pcsp → b ≡ table_offset ts f.pcfile → c ≡ table_offset ts f.pcline → n ≡ length (pcdata_of f) → k ≡ length (funcdata_of tree f)
    → fields_bytes (u32 f.start ∷ u32 name ∷ u32 f.args ∷ u32 f.deferreturn ∷ u32 a ∷ u32 b ∷ u32 c ∷ u32 n ∷ u32 first ∷ u32 f.start_line ∷ byte f.id ∷ byte f.flag ∷ byte 0 ∷ byte k ∷ [])
    ≡ fields_bytes (head_fields (record_with first ns ts tree f))
head_is first ns ts tree f name a b c n k e1 e2 e3 e4 e5 e6 = rw (e1, e2, e3, e4, e5, e6, length-map (pcdata_of f) (table_offset ts)) refl

-- what holds of an answer
pub on_ok : {E : Type 0} {P Q : Type 0} (r : Result (Unit {0}) E) → (P → Q) → OnOk r P → OnOk r Q
on_ok (Ok u) f p = f p
on_ok (Err e) f p = tt

-- ---- the first of a list is written, and the others are left
pub record_next : (units : List (List (List ℕ))) (ns ts : List (List ℕ)) (tree next first : ℕ) (fs : List FunctionValue) (d : FunctionValue) (out mid now whole : List ℕ) → 1 ≤ length fs
    → mid ≡ zeros_to 8 out → now ≡ mid ++ record_bytes (record_with first ns ts tree (function_view (get_or fs 0 d))) → first ≡ first_entry units (get_or fs 0 d).unit → next ≡ tree + 16 * length (get_or fs 0 d).inlined.now
    → with_records (records_from units ns ts tree (functions_view fs)) out ≡ whole → with_records (records_from units ns ts next (functions_view (take (length fs - 1) (drop 1 fs)))) now ≡ whole
record_next units ns ts tree next first [] d out mid now whole some pad push is step before = absurd (omega arith)
record_next units ns ts tree next first (f ∷ fs) d out mid now whole some pad push is step before =
    let size : next ≡ tree + 16 * length (calls_view f.inlined.now) = omega (arith, step, length-map f.inlined.now call_view) in
    rw (rest_is f fs) (records_more units ns ts tree next first (function_view f) (functions_view fs) out mid now whole pad push is size before)

pub record_end : (units : List (List (List ℕ))) (ns ts : List (List ℕ)) (tree : ℕ) (fs : List FunctionValue) (out whole : List ℕ) → length fs < 1 → with_records (records_from units ns ts tree (functions_view fs)) out ≡ whole → out ≡ whole
unfolding with_records records_from
record_end units ns ts tree fs out whole none before = ap (λ (xs : List FunctionValue). with_records (records_from units ns ts tree (functions_view xs)) out) (sym (none_left fs none)) ∙ before

pub can_first : (units tree : ℕ) (fs : List FunctionValue) (d : FunctionValue) → 1 ≤ length fs → AllCanWrite units tree (functions_view fs) → CanWrite units tree (function_view (get_or fs 0 d))
can_first units tree [] d some all = absurd (omega arith)
can_first units tree (f ∷ fs) d some all = all.0

pub can_next : (units tree next : ℕ) (fs : List FunctionValue) (d : FunctionValue) → 1 ≤ length fs → next ≡ tree + 16 * length (get_or fs 0 d).inlined.now → AllCanWrite units tree (functions_view fs) → AllCanWrite units next (functions_view (take (length fs - 1) (drop 1 fs)))
can_next units tree next [] d some step all = absurd (omega arith)
can_next units tree next (f ∷ fs) d some step all =
    let size : tree + 16 * length (calls_view f.inlined.now) ≡ next = omega (arith, step, length-map f.inlined.now call_view) in
    rw (rest_is f fs) (subst (λ (n : ℕ). AllCanWrite units n (functions_view fs)) size all.1)

pub calls_counted : (f : FunctionValue) → length (calls_view f.inlined.now) ≡ length f.inlined.now
calls_counted f = length-map f.inlined.now call_view

pub small_first : (fs : List FunctionValue) (d : FunctionValue) → 1 ≤ length fs → AllAreSmall (functions_view fs) → (length (pcdata_of (function_view (get_or fs 0 d))) < 2 ^ 16) × (length (funcdata_of 0 (function_view (get_or fs 0 d))) < 2 ^ 8) × AllAreSmall (functions_view (take (length fs - 1) (drop 1 fs)))
small_first [] d some all = absurd (omega arith)
small_first (f ∷ fs) d some all = (all.0, all.1, rw (rest_is f fs) all.2)

pub end_next : (at next : ℕ) (fs : List FunctionValue) (d : FunctionValue) → 1 ≤ length fs → next ≡ next_multiple 8 at + record_length (function_view (get_or fs 0 d)) → end_from next (functions_view (take (length fs - 1) (drop 1 fs))) ≡ end_from at (functions_view fs)
unfolding end_from
end_next at next [] d some step = absurd (omega arith)
end_next at next (f ∷ fs) d some step = rw (rest_is f fs) (ap (λ (n : ℕ). end_from n (functions_view fs)) step)

pub end_end : (at : ℕ) (fs : List FunctionValue) → length fs < 1 → at ≡ end_from at (functions_view fs)
unfolding end_from
end_end at fs none = ap (λ (xs : List FunctionValue). end_from at (functions_view xs)) (sym (none_left fs none))

pub functab_next : (at next offset size : ℕ) (fs : List FunctionValue) (d : FunctionValue) (out now whole : List ℕ) → 1 ≤ length fs → offset ≡ next_multiple 8 at → next ≡ offset + record_length (function_view (get_or fs 0 d))
    → now ≡ out ++ fields_bytes (u32 (get_or fs 0 d).start ∷ u32 offset ∷ [])
    → out ++ functab (starts (functions_view fs)) (offsets_from at (functions_view fs)) size ≡ whole
    → now ++ functab (starts (functions_view (take (length fs - 1) (drop 1 fs)))) (offsets_from next (functions_view (take (length fs - 1) (drop 1 fs)))) size ≡ whole
unfolding functab offsets_from
functab_next at next offset size [] d out now whole some is step push before = absurd (omega arith)
functab_next at next offset size (f ∷ fs) d out now whole some is step push before =
    let pair = fields_bytes (u32 f.start ∷ u32 (next_multiple 8 at) ∷ []) in
    let after = functab (starts (functions_view fs)) (offsets_from (next_multiple 8 at + record_length (function_view f)) (functions_view fs)) size in
    let same : next ≡ next_multiple 8 at + record_length (function_view f) = omega (arith, is, step) in
    rw (rest_is f fs) (ap (λ (n : ℕ). now ++ functab (starts (functions_view fs)) (offsets_from n (functions_view fs)) size) same ∙ ap (λ s. s ++ after) (push ∙ ap (λ (n : ℕ). out ++ fields_bytes (u32 f.start ∷ u32 n ∷ [])) is) ∙ append_assoc out pair after ∙ before)

pub functab_last_is : (at size : ℕ) (fs : List FunctionValue) (out now whole : List ℕ) → length fs < 1 → now ≡ out ++ fields_bytes (u32 size ∷ []) → out ++ functab (starts (functions_view fs)) (offsets_from at (functions_view fs)) size ≡ whole → now ≡ whole
unfolding functab offsets_from
functab_last_is at size fs out now whole none push before = push ∙ ap (λ (xs : List FunctionValue). out ++ functab (starts (functions_view xs)) (offsets_from at (functions_view xs)) size) (sym (none_left fs none)) ∙ before

-- ---- bounds
pub offset_fits : (at n : ℕ) (fs : List FunctionValue) → 1 ≤ length fs → end_from at (functions_view fs) < n → next_multiple 8 at < n
unfolding end_from
offset_fits at n [] some short = absurd (omega arith)
offset_fits at n (f ∷ fs) some short = omega (arith, short, end_above (next_multiple 8 at + record_length (function_view f)) (functions_view fs))

pub next_fits : (at rl n : ℕ) (fs : List FunctionValue) (d : FunctionValue) → 1 ≤ length fs → rl ≡ record_length (function_view (get_or fs 0 d)) → end_from at (functions_view fs) < n → next_multiple 8 at + rl < n
unfolding end_from
next_fits at rl n [] d some is short = absurd (omega arith)
next_fits at rl n (f ∷ fs) d some is short = omega (arith, is, short, end_above (next_multiple 8 at + record_length (function_view f)) (functions_view fs))

pub length_fits : (rl : ℕ) (fs : List FunctionValue) (d : FunctionValue) → 1 ≤ length fs → rl ≡ record_length (function_view (get_or fs 0 d)) → AllAreSmall (functions_view fs) → rl < 2 ^ 19
length_fits rl [] d some is all = absurd (omega arith)
length_fits rl (f ∷ fs) d some is all = omega (arith, is, all.0, all.1)

pub small_next : (fs : List FunctionValue) → 1 ≤ length fs → AllAreSmall (functions_view fs) → AllAreSmall (functions_view (take (length fs - 1) (drop 1 fs)))
small_next [] some all = absurd (omega arith)
small_next (f ∷ fs) some all = rw (rest_is f fs) all.2

pub functions_counted : (fs : List FunctionValue) → length fs ≡ length (functions_view fs)
functions_counted fs = sym (length-map fs function_view)

-- one function can be written
pub can_one : (units tree : ℕ) (f : Function) → CanWrite units tree f → (i : ℕ) → i < 1 → CanWrite units (tree_offset tree (f ∷ []) i) (get_or (f ∷ []) i no_function)
can_one units tree f can zero inside = can
can_one units tree f can (suc i) inside = absurd (omega arith)
