-- The names, the pc tables and the files of each function are in the lists of all.
use Rattle.std.proofs.Common.{◌≡◌, ℕ, zero, suc, ◌+◌, ◌<◌, ◌≤◌, List, [], ◌∷◌, ◌++◌, length, map, get_or, Option, Some, None, cond, refl, sym, ap, subst, arith, length-append, true, false, Bool, ℤ, pos, negsuc}
use Rattle.std.specs.Prelude.{nat_lt, ◌==◌}
use Rattle.glk_pcval.specs.Table.{ranges, value_in, value_of}
use Rattle.glk_frames.specs.Chain.{at_index}
use Rattle.glk_pctab.specs.FirstUse.{is_among, first_use}
use Rattle.glk_pctab.specs.Functions.{Function, InlinedCall, pcdata_of, unit_files, first_entry, entry_of, entries_of, entries_named, no_function}
use Rattle.glk_pctab.specs.Section.{names_of, tables_of, some_tables, is_number_among, entries_from, files_of, named_files}
use Rattle.glk_pctab.proofs.FirstUseLemmas.{each_has, among_left, among_right, among_first, among_next}

pub names_have : (fs : List Function) (i : ℕ) → i < length fs → is_among (names_of fs) (get_or fs i no_function).name ≡ true
names_have [] i inside = absurd (omega arith)
names_have (f ∷ fs) zero inside = among_first f.name (map (λ (call : InlinedCall). call.node.name) f.inlined ++ names_of fs)
names_have (f ∷ fs) (suc i) inside =
    among_next f.name (map (λ (call : InlinedCall). call.node.name) f.inlined ++ names_of fs) (get_or fs i no_function).name (among_right (map (λ (call : InlinedCall). call.node.name) f.inlined) (names_of fs) (get_or fs i no_function).name (names_have fs i (omega arith)))

call_among : (calls : List InlinedCall) (k : ℕ) (n : InlinedCall) → at_index calls k ≡ Some n → is_among (map (λ (m : InlinedCall). m.node.name) calls) n.node.name ≡ true
call_among [] k n is = absurd (let bad : None ≡ Some n = is in cc)
call_among (m ∷ calls) zero n is =
    let h : Some m ≡ Some n = is in
    let same : m ≡ n = cc in
    subst (λ (x : InlinedCall). is_among (m.node.name ∷ map (λ (y : InlinedCall). y.node.name) calls) x.node.name ≡ true) same (among_first m.node.name (map (λ (y : InlinedCall). y.node.name) calls))
call_among (m ∷ calls) (suc k) n is = among_next m.node.name (map (λ (y : InlinedCall). y.node.name) calls) n.node.name (call_among calls k n is)

pub calls_have : (fs : List Function) (i k : ℕ) (n : InlinedCall) → i < length fs → at_index (get_or fs i no_function).inlined k ≡ Some n → is_among (names_of fs) n.node.name ≡ true
calls_have [] i k n inside is = absurd (omega arith)
calls_have (f ∷ fs) zero k n inside is =
    among_next f.name (map (λ (m : InlinedCall). m.node.name) f.inlined ++ names_of fs) n.node.name (among_left (map (λ (m : InlinedCall). m.node.name) f.inlined) (names_of fs) n.node.name (call_among f.inlined k n is))
calls_have (f ∷ fs) (suc i) k n inside is =
    among_next f.name (map (λ (m : InlinedCall). m.node.name) f.inlined ++ names_of fs) n.node.name (among_right (map (λ (m : InlinedCall). m.node.name) f.inlined) (names_of fs) n.node.name (calls_have fs i k n (omega arith) is))

-- the tables of one function
abbrev pub own_tables : Function → List (List ℕ)
own_tables f = f.pcsp ∷ f.pcfile ∷ f.pcline ∷ pcdata_of f

pub tables_have : (fs : List Function) (i : ℕ) (q : List ℕ) → i < length fs → is_among (own_tables (get_or fs i no_function)) q ≡ true → is_among (tables_of fs) q ≡ true
tables_have [] i q inside is = absurd (omega arith)
tables_have (f ∷ fs) zero q inside is = among_left (own_tables f) (tables_of fs) q is
tables_have (f ∷ fs) (suc i) q inside is = among_right (own_tables f) (tables_of fs) q (tables_have fs i q (omega arith) is)

or_true : (b t u : Bool) → cond b true t ≡ true → (t ≡ true → u ≡ true) → cond b true u ≡ true
or_true true t u is h = refl
or_true false t u is h = h is

some_has : (ts : List (List ℕ)) (b : ℕ) (t : List ℕ) → is_among ts (b ∷ t) ≡ true → is_among (some_tables ts) (b ∷ t) ≡ true
unfolding is_among
some_has [] b t is = is
some_has ([] ∷ ts) b t is = some_has ts b t is
some_has ((c ∷ u) ∷ ts) b t is = or_true _ (is_among ts (b ∷ t)) (is_among (some_tables ts) (b ∷ t)) is (λ h. some_has ts b t h)

pub table_kept : (ts : List (List ℕ)) (b : ℕ) (t : List ℕ) → is_among ts (b ∷ t) ≡ true → is_among (first_use (some_tables ts)) (b ∷ t) ≡ true
table_kept ts b t is = each_has [] (some_tables ts) (b ∷ t) (some_has ts b t is)

-- ---- files
pub files_have : (es : List (Option (List ℕ))) (k : ℕ) (name : List ℕ) → at_index es k ≡ Some (Some name) → is_among (named_files es) name ≡ true
files_have [] k name is = absurd (let bad : None ≡ Some (Some name) = is in cc)
files_have (None ∷ es) zero name is =
    let h : Some None ≡ Some (Some name) = is in
    let e : None ≡ Some name = cc in
    absurd (let bad : None ≡ Some name = e in cc)
files_have (None ∷ es) (suc k) name is = files_have es k name is
files_have (Some f ∷ es) zero name is =
    let h : Some (Some f) ≡ Some (Some name) = is in
    let e : Some f ≡ Some name = cc in
    let same : f ≡ name = cc in
    subst (λ (x : List ℕ). is_among (f ∷ named_files es) x ≡ true) same (among_first f (named_files es))
files_have (Some f ∷ es) (suc k) name is = among_next f (named_files es) name (files_have es k name is)

-- a number is among others
number_left : (ms ns : List ℕ) (k : ℕ) → is_number_among ms k ≡ true → is_number_among (ms ++ ns) k ≡ true
number_left [] ns k is = let bad : false ≡ true = is in cc
number_left (m ∷ ms) ns k is = or_true (m == k) (is_number_among ms k) (is_number_among (ms ++ ns) k) is (λ h. number_left ms ns k h)

last_or : (b t : Bool) → t ≡ true → cond b true t ≡ true
last_or true t is = refl
last_or false t is = is

number_right : (ms ns : List ℕ) (k : ℕ) → is_number_among ns k ≡ true → is_number_among (ms ++ ns) k ≡ true
number_right [] ns k is = is
number_right (m ∷ ms) ns k is = last_or (m == k) (is_number_among (ms ++ ns) k) (number_right ms ns k is)

number_first : (n : ℕ) (ns : List ℕ) → is_number_among (n ∷ ns) n ≡ true
number_first n ns = let same : (n == n) ≡ true = grind arith in rw same refl

-- a value of a table names its entry
by_range : {P : Type 0} (b : Bool) (x : ℤ) (r : Option ℤ) (v : ℤ) → cond b (Some x) r ≡ Some v → (x ≡ v → P) → (r ≡ Some v → P) → P
by_range true x r v is here later = let h : Some x ≡ Some v = is in let e : x ≡ v = cc in here e
by_range false x r v is here later = later is

entry_here : (first count k : ℕ) → k < count → is_number_among (entry_of first count (pos k)) (first + k) ≡ true
entry_here first count k inside =
    let low : nat_lt k count ≡ true = grind (arith, inside) in
    rw low (number_first (first + k) [])

value_named : (first count : ℕ) (rs : List (ℤ × ℕ)) (off k : ℕ) → k < count → value_in rs off ≡ Some (pos k) → is_number_among (entries_of first count rs) (first + k) ≡ true
unfolding entries_of
value_named first count [] off k inside is = absurd (let bad : None ≡ Some (pos k) = is in cc)
value_named first count (range ∷ rs) off k inside is = by_range (nat_lt off range.1) range.0 (value_in rs off) (pos k) is
    (λ here. number_left (entry_of first count range.0) (entries_of first count rs) (first + k) (subst (λ (x : ℤ). is_number_among (entry_of first count x) (first + k) ≡ true) (sym here) (entry_here first count k inside)))
    (λ later. number_right (entry_of first count range.0) (entries_of first count rs) (first + k) (value_named first count rs off k inside later))

pub value_names : (first count : ℕ) (table : List ℕ) (off : ℤ) (k : ℕ) → k < count → value_of table off ≡ Some (pos k) → is_number_among (entries_of first count (ranges table)) (first + k) ≡ true
value_names first count table (pos off) k inside is = value_named first count (ranges table) off k inside is
value_names first count table (negsuc below) k inside is = absurd (let bad : None ≡ Some (pos k) = is in cc)

pub function_names : (units : List (List (List ℕ))) (fs : List Function) (i n : ℕ) → i < length fs
    → is_number_among (entries_of (first_entry units (get_or fs i no_function).unit) (length (unit_files units (get_or fs i no_function).unit)) (ranges (get_or fs i no_function).pcfile)) n ≡ true
    → is_number_among (entries_named units fs) n ≡ true
unfolding entries_named
function_names units [] i n inside is = absurd (omega arith)
function_names units (f ∷ fs) zero n inside is = number_left (entries_of (first_entry units f.unit) (length (unit_files units f.unit)) (ranges f.pcfile)) (entries_named units fs) n is
function_names units (f ∷ fs) (suc i) n inside is =
    number_right (entries_of (first_entry units f.unit) (length (unit_files units f.unit)) (ranges f.pcfile)) (entries_named units fs) n (function_names units fs i n (omega arith) is)

-- an entry that is named has the file
pub entry_there : (named : List ℕ) (files : List (List ℕ)) (start k : ℕ) (name : List ℕ) → at_index files k ≡ Some name → is_number_among named (start + k) ≡ true → at_index (entries_from named start files) k ≡ Some (Some name)
unfolding entries_from
entry_there named [] start k name is has = absurd (let bad : None ≡ Some name = is in cc)
entry_there named (f ∷ files) start zero name is has =
    let h : Some f ≡ Some name = is in
    let same : f ≡ name = cc in
    let e : start + 0 ≡ start = omega arith in
    let here : is_number_among named start ≡ true = subst (λ (n : ℕ). is_number_among named n ≡ true) e has in
    rw here (ap (λ (x : List ℕ). Some (Some x)) same)
entry_there named (f ∷ files) start (suc k) name is has =
    let e : start + suc k ≡ start + 1 + k = omega arith in
    entry_there named files (start + 1) k name is (subst (λ (n : ℕ). is_number_among named n ≡ true) e has)

file_left : (xs ys : List (List ℕ)) (k : ℕ) (name : List ℕ) → at_index xs k ≡ Some name → at_index (xs ++ ys) k ≡ Some name
file_left [] ys k name is = absurd (let bad : None ≡ Some name = is in cc)
file_left (x ∷ xs) ys zero name is = is
file_left (x ∷ xs) ys (suc k) name is = file_left xs ys k name is

file_right : (xs ys : List (List ℕ)) (k : ℕ) (name : List ℕ) → at_index ys k ≡ Some name → at_index (xs ++ ys) (length xs + k) ≡ Some name
file_right [] ys k name is = let e : 0 + k ≡ k = omega arith in subst (λ (n : ℕ). at_index ys n ≡ Some name) (sym e) is
file_right (x ∷ xs) ys k name is = let e : length (x ∷ xs) + k ≡ suc (length xs + k) = omega arith in subst (λ (n : ℕ). at_index ((x ∷ xs) ++ ys) n ≡ Some name) (sym e) (file_right xs ys k name is)

-- a file of a unit is among all files
pub unit_file : (units : List (List (List ℕ))) (u k : ℕ) (name : List ℕ) → at_index (unit_files units u) k ≡ Some name → at_index (files_of units) (first_entry units u + k) ≡ Some name
unit_file [] u k name is = absurd (let bad : None ≡ Some name = is in cc)
unit_file (files ∷ units) zero k name is = let e : 0 + k ≡ k = omega arith in subst (λ (n : ℕ). at_index (files ++ files_of units) n ≡ Some name) (sym e) (file_left files (files_of units) k name is)
unit_file (files ∷ units) (suc u) k name is =
    let e : length files + (first_entry units u + k) ≡ length files + first_entry units u + k = omega arith in
    subst (λ (n : ℕ). at_index (files ++ files_of units) n ≡ Some name) e (file_right files (files_of units) (first_entry units u + k) name (unit_file units u k name is))

pub length_entries : (named : List ℕ) (start : ℕ) (files : List (List ℕ)) → length (entries_from named start files) ≡ length files
unfolding entries_from
length_entries named start [] = refl
length_entries named start (f ∷ files) = ap suc (length_entries named (start + 1) files)

-- a unit begins inside cutab
pub unit_inside : (units : List (List (List ℕ))) (u : ℕ) → first_entry units u ≤ length (files_of units)
unit_inside [] u = omega arith
unit_inside (files ∷ units) zero = omega arith
unit_inside (files ∷ units) (suc u) = omega (arith, length-append files (files_of units), unit_inside units u)
