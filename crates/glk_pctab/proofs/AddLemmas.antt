-- Byte strings that come to a pool in several steps.
use Rattle.std.proofs.Common.{◌≡◌, ◌∙◌, ℕ, suc, ◌+◌, ◌<◌, ◌≤◌, List, [], ◌∷◌, ◌++◌, length, take, drop, get_or, ◌-◌, refl, sym, ap, subst, arith, add-one, drop-cons, Option, Some, None}
use Rattle.std.proofs.lemmas.List.{drop_all}
use Rattle.glk_pctab.specs.FirstUse.{with_each, first_use, offset_in}
use Rattle.glk_pctab.specs.Contents.{Contents, with_all}
use denote.Ref.{Bor}
use Rattle.glk_pctab.specs.declared.function.InlinedCall.{InlinedCall as CallValue}
use Rattle.glk_pctab.specs.declared.function.Function.{Function as FunctionValue}
use Rattle.glk_pctab.specs.Functions.{pcdata_of}
use Rattle.glk_pctab.specs.Section.{call_names, names_of, some_tables, named_files, tables_of, table_offset}
use Rattle.glk_pctab.specs.Views.{calls_view, function_view, functions_view}
use Rattle.glk_pctab.specs.Building.{entries_view, file_view}
use Rattle.glk_pctab.proofs.ListLemmas.{rest_is, none_left}
use Rattle.glk_pctab.proofs.FirstUseLemmas.{each_append}

-- some come, and the others are left
pub all_more : (p q : Contents) (xs ys : List (List ℕ)) (whole : Contents) → q ≡ with_all p xs → with_all p (xs ++ ys) ≡ whole → with_all q ys ≡ whole
all_more p q xs ys whole step before =
    let P : Contents → Type 0 = λ c. with_all c ys ≡ whole in
    subst P (sym step) (ap (λ (es : List (List ℕ)). let c : Contents = record { mark = p.mark; elements = es } in c) (sym (each_append p.elements xs ys)) ∙ before)

-- none are left
pub all_done : (p whole : Contents) → with_all p [] ≡ whole → p ≡ whole
unfolding with_each
all_done p whole is = is

pub all_none : (p : Contents) → p ≡ with_all p []
unfolding with_each
all_none p = refl

-- in two steps and in one
pub all_append : (p q r : Contents) (xs ys : List (List ℕ)) → q ≡ with_all p xs → r ≡ with_all q ys → r ≡ with_all p (xs ++ ys)
all_append p q r xs ys first second =
    second ∙ (let P : Contents → Type 0 = λ c. with_all c ys ≡ with_all p (xs ++ ys) in
    subst P (sym first) (ap (λ (es : List (List ℕ)). let c : Contents = record { mark = p.mark; elements = es } in c) (sym (each_append p.elements xs ys))))

-- a new pool
pub all_new : (p q : Contents) (mark : List ℕ) (xs : List (List ℕ)) → p ≡ record { mark = mark; elements = [] } → q ≡ with_all p xs → q ≡ record { mark = mark; elements = first_use xs }
all_new p q mark xs new step = step ∙ ap (λ (c : Contents). with_all c xs) new

-- ---- tables
some_append : (xs ys : List (List ℕ)) → some_tables (xs ++ ys) ≡ some_tables xs ++ some_tables ys
some_append [] ys = refl
some_append ([] ∷ xs) ys = some_append xs ys
some_append ((b ∷ t) ∷ xs) ys = ap (λ (zs : List (List ℕ)). (b ∷ t) ∷ zs) (some_append xs ys)

pub some_next : (p q : Contents) (ts : List (List ℕ)) (k : ℕ) (table : List ℕ) (whole : Contents) → k < length ts → table ≡ get_or ts k [] → q ≡ with_all p (some_tables (table ∷ [])) → with_all p (some_tables (drop k ts)) ≡ whole → with_all q (some_tables (drop (k + 1) ts)) ≡ whole
some_next p q ts k table whole inside same step before =
    let split : some_tables (drop k ts) ≡ some_tables (table ∷ []) ++ some_tables (drop (k + 1) ts) =
    rw (add-one, drop-cons ts k [] inside) (some_append (get_or ts k [] ∷ []) (drop (suc k) ts) ∙ ap (λ (t : List ℕ). some_tables (t ∷ []) ++ some_tables (drop (suc k) ts)) (sym same)) in
    all_more p q (some_tables (table ∷ [])) (some_tables (drop (k + 1) ts)) whole step (ap (λ (zs : List (List ℕ)). with_all p zs) (sym split) ∙ before)

pub some_last : (p : Contents) (ts : List (List ℕ)) (k : ℕ) (whole : Contents) → length ts ≤ k → with_all p (some_tables (drop k ts)) ≡ whole → p ≡ whole
some_last p ts k whole past before = all_done p whole (ap (λ (zs : List (List ℕ)). with_all p (some_tables zs)) (sym (drop_all k ts past)) ∙ before)

-- the tables of one function more
pub tables_more : (p q1 q2 q3 q4 : Contents) (a b c : List ℕ) (ds rest : List (List ℕ)) (whole : Contents)
    → q1 ≡ with_all p (some_tables (a ∷ [])) → q2 ≡ with_all q1 (some_tables (b ∷ [])) → q3 ≡ with_all q2 (some_tables (c ∷ [])) → q4 ≡ with_all q3 (some_tables ds)
    → with_all p (some_tables (a ∷ b ∷ c ∷ (ds ++ rest))) ≡ whole → with_all q4 (some_tables rest) ≡ whole
tables_more p q1 q2 q3 q4 a b c ds rest whole e1 e2 e3 e4 before =
    let s1 : some_tables (a ∷ b ∷ c ∷ (ds ++ rest)) ≡ some_tables (a ∷ []) ++ some_tables (b ∷ c ∷ (ds ++ rest)) = some_append (a ∷ []) (b ∷ c ∷ (ds ++ rest)) in
    let s2 : some_tables (b ∷ c ∷ (ds ++ rest)) ≡ some_tables (b ∷ []) ++ some_tables (c ∷ (ds ++ rest)) = some_append (b ∷ []) (c ∷ (ds ++ rest)) in
    let s3 : some_tables (c ∷ (ds ++ rest)) ≡ some_tables (c ∷ []) ++ some_tables (ds ++ rest) = some_append (c ∷ []) (ds ++ rest) in
    let s4 = some_append ds rest in
    let b1 = all_more p q1 _ _ whole e1 (ap (λ (zs : List (List ℕ)). with_all p zs) (sym s1) ∙ before) in
    let b2 = all_more q1 q2 _ _ whole e2 (ap (λ (zs : List (List ℕ)). with_all q1 zs) (sym s2) ∙ b1) in
    let b3 = all_more q2 q3 _ _ whole e3 (ap (λ (zs : List (List ℕ)). with_all q2 zs) (sym s3) ∙ b2) in
    all_more q3 q4 _ _ whole e4 (ap (λ (zs : List (List ℕ)). with_all q3 zs) (sym s4) ∙ b3)

-- ---- files
files_cons : (e : Option (List ℕ)) (es : List (Option (List ℕ))) → named_files (e ∷ es) ≡ named_files (e ∷ []) ++ named_files es
files_cons None es = refl
files_cons (Some file) es = refl

pub files_more : (p q : Contents) (e : Option (List ℕ)) (es : List (Option (List ℕ))) (whole : Contents) → q ≡ with_all p (named_files (e ∷ [])) → with_all p (named_files (e ∷ es)) ≡ whole → with_all q (named_files es) ≡ whole
files_more p q e es whole step before = all_more p q (named_files (e ∷ [])) (named_files es) whole step (ap (λ (zs : List (List ℕ)). with_all p zs) (sym (files_cons e es)) ∙ before)

-- ---- the first of a list comes, and the others are left
pub calls_next : (p q : Contents) (cs : List CallValue) (d : CallValue) (whole : Contents) → 1 ≤ length cs → q ≡ with_all p ((get_or cs 0 d).name.now ∷ [])
    → with_all p (call_names (calls_view cs)) ≡ whole → with_all q (call_names (calls_view (take (length cs - 1) (drop 1 cs)))) ≡ whole
calls_next p q [] d whole some step before = absurd (omega arith)
calls_next p q (c ∷ cs) d whole some step before = rw (rest_is c cs) (all_more p q (c.name.now ∷ []) (call_names (calls_view cs)) whole step before)

pub names_next : (p q r : Contents) (fs : List FunctionValue) (d : FunctionValue) (whole : Contents) → 1 ≤ length fs → q ≡ with_all p ((get_or fs 0 d).name.now ∷ []) → r ≡ with_all q (call_names (calls_view (get_or fs 0 d).inlined.now))
    → with_all p (names_of (functions_view fs)) ≡ whole → with_all r (names_of (functions_view (take (length fs - 1) (drop 1 fs)))) ≡ whole
names_next p q r [] d whole some first second before = absurd (omega arith)
names_next p q r (f ∷ fs) d whole some first second before =
    rw (rest_is f fs) (all_more q r (call_names (calls_view f.inlined.now)) (names_of (functions_view fs)) whole second
    (all_more p q (f.name.now ∷ []) (call_names (calls_view f.inlined.now) ++ names_of (functions_view fs)) whole first before))

pub tables_next : (p q1 q2 q3 q4 : Contents) (fs : List FunctionValue) (d : FunctionValue) (whole : Contents) → 1 ≤ length fs
    → q1 ≡ with_all p (some_tables ((get_or fs 0 d).pcsp.now ∷ [])) → q2 ≡ with_all q1 (some_tables ((get_or fs 0 d).pcfile.now ∷ [])) → q3 ≡ with_all q2 (some_tables ((get_or fs 0 d).pcline.now ∷ []))
    → q4 ≡ with_all q3 (some_tables (pcdata_of (function_view (get_or fs 0 d))))
    → with_all p (some_tables (tables_of (functions_view fs))) ≡ whole → with_all q4 (some_tables (tables_of (functions_view (take (length fs - 1) (drop 1 fs))))) ≡ whole
tables_next p q1 q2 q3 q4 [] d whole some e1 e2 e3 e4 before = absurd (omega arith)
tables_next p q1 q2 q3 q4 (f ∷ fs) d whole some e1 e2 e3 e4 before =
    rw (rest_is f fs) (tables_more p q1 q2 q3 q4 f.pcsp.now f.pcfile.now f.pcline.now (pcdata_of (function_view f)) (tables_of (functions_view fs)) whole e1 e2 e3 e4 before)

pub files_next : (p q : Contents) (es : List (Option (Bor (List ℕ)))) (d : Option (Bor (List ℕ))) (whole : Contents) → 1 ≤ length es → q ≡ with_all p (named_files (file_view (get_or es 0 d) ∷ []))
    → with_all p (named_files (entries_view es)) ≡ whole → with_all q (named_files (entries_view (take (length es - 1) (drop 1 es)))) ≡ whole
files_next p q [] d whole some step before = absurd (omega arith)
files_next p q (e ∷ es) d whole some step before = rw (rest_is e es) (files_more p q (file_view e) (entries_view es) whole step before)

-- ---- none are left
pub calls_end : (p : Contents) (cs : List CallValue) (whole : Contents) → length cs < 1 → with_all p (call_names (calls_view cs)) ≡ whole → p ≡ whole
calls_end p cs whole none before = all_done p whole (ap (λ (xs : List CallValue). with_all p (call_names (calls_view xs))) (sym (none_left cs none)) ∙ before)

pub names_end : (p : Contents) (fs : List FunctionValue) (whole : Contents) → length fs < 1 → with_all p (names_of (functions_view fs)) ≡ whole → p ≡ whole
names_end p fs whole none before = all_done p whole (ap (λ (xs : List FunctionValue). with_all p (names_of (functions_view xs))) (sym (none_left fs none)) ∙ before)

pub tables_end : (p : Contents) (fs : List FunctionValue) (whole : Contents) → length fs < 1 → with_all p (some_tables (tables_of (functions_view fs))) ≡ whole → p ≡ whole
tables_end p fs whole none before = all_done p whole (ap (λ (xs : List FunctionValue). with_all p (some_tables (tables_of (functions_view xs)))) (sym (none_left fs none)) ∙ before)

pub files_end : (p : Contents) (es : List (Option (Bor (List ℕ)))) (whole : Contents) → length es < 1 → with_all p (named_files (entries_view es)) ≡ whole → p ≡ whole
files_end p es whole none before = all_done p whole (ap (λ (xs : List (Option (Bor (List ℕ)))). with_all p (named_files (entries_view xs))) (sym (none_left es none)) ∙ before)

-- ---- offsets of tables
pub table_empty : (ts : List (List ℕ)) (t : List ℕ) → length t ≡ 0 → 0 ≡ table_offset ts t
unfolding table_offset
table_empty ts [] none = refl
table_empty ts (b ∷ t) none = absurd (omega arith)

pub table_full : (ts : List (List ℕ)) (t : List ℕ) (at : ℕ) → (length t ≡ 0 → ⊥) → at ≡ offset_in [] ts t → 1 + at ≡ table_offset ts t
unfolding table_offset
table_full ts [] at some is = absurd (some refl)
table_full ts (b ∷ t) at some is = ap (λ n. 1 + n) is

pub table_none : (p : Contents) (t : List ℕ) → length t ≡ 0 → p ≡ with_all p (some_tables (t ∷ []))
table_none p [] none = all_none p
table_none p (b ∷ t) none = absurd (omega arith)

pub file_none : (p : Contents) (e : Option (Bor (List ℕ))) → e ≡ None → p ≡ with_all p (named_files (file_view e ∷ []))
file_none p e is = subst (λ (x : Option (Bor (List ℕ))). p ≡ with_all p (named_files (file_view x ∷ []))) (sym is) (all_none p)
