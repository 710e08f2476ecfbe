-- The linker's own symbols one by one.
use Rattle.std.proofs.Common.{◌≡◌, ℕ, ◌+◌, ◌-◌, ◌<◌, ◌≤◌, List, ◌++◌, map, length, get_or, refl, sym, ap, ◌∙◌, arith}
use Rattle.std.proofs.lemmas.List.{get_or_append_left, get_or-append_right, get_or-map, length-map}
use Rattle.glk_obj.specs.Records.{Symbol}
use Rattle.glk_keys.specs.MadeNames.{made_names, made_count}
use Rattle.glk_keys.specs.MadeViews.{made_at, no_made}
use Rattle.glk_keys.specs.Programs.{Program, no_builtin}
use Rattle.glk_keys.specs.RowLaws.{count_made}
use Rattle.glk_keys.specs.Rows.{own_symbols, asked_symbols, asked_count, made_symbol, builtin_symbol, no_symbol}

abbrev made_symbols : List Symbol
made_symbols = map made_symbol made_names

abbrev builtin_symbols : Program → List Symbol
builtin_symbols p = map builtin_symbol p.builtins

count_asked : (entry : List ℕ) → length (asked_symbols entry) ≡ asked_count
count_asked entry = refl

count_made_symbols : length made_symbols ≡ made_count
count_made_symbols = length-map made_names made_symbol ∙ count_made

-- one that the linker asks for
pub own_asked : (p : Program) (i : ℕ) → i < asked_count → get_or (own_symbols p) i no_symbol ≡ get_or (asked_symbols p.entry) i no_symbol
unfolding own_symbols
own_asked p i h =
    let a = count_asked p.entry in
    get_or_append_left (asked_symbols p.entry) (made_symbols ++ builtin_symbols p) no_symbol i (omega arith)

-- a made name
pub own_made : (p : Program) (i k : ℕ) → asked_count ≤ i → i < asked_count + made_count → k ≡ i - asked_count → get_or (own_symbols p) i no_symbol ≡ made_symbol (made_at k)
unfolding own_symbols
own_made p i k low high e =
    let m = count_made in
    let long = count_made_symbols in
    let inside : i - asked_count < length made_symbols = omega (arith, long, low, high) in
    let there : k < length made_names = omega (arith, m, low, high, e) in
    get_or-append_right (asked_symbols p.entry) (made_symbols ++ builtin_symbols p) asked_count i no_symbol (count_asked p.entry) low
    ∙ get_or_append_left made_symbols (builtin_symbols p) no_symbol (i - asked_count) inside
    ∙ ap (λ j. get_or made_symbols j no_symbol) (sym e)
    ∙ get_or-map made_symbol made_names k no_made no_symbol there

-- a builtin
pub own_builtin : (p : Program) (i k : ℕ) → asked_count + made_count ≤ i → k < length p.builtins → k ≡ i - (asked_count + made_count)
    → get_or (own_symbols p) i no_symbol ≡ builtin_symbol (get_or p.builtins k no_builtin)
unfolding own_symbols
own_builtin p i k low inside e =
    let past : i - asked_count - made_count ≡ k = omega (arith, low, e) in
    get_or-append_right (asked_symbols p.entry) (made_symbols ++ builtin_symbols p) asked_count i no_symbol (count_asked p.entry) (omega (arith, low))
    ∙ get_or-append_right made_symbols (builtin_symbols p) made_count (i - asked_count) no_symbol count_made_symbols (omega (arith, low))
    ∙ ap (λ j. get_or (builtin_symbols p) j no_symbol) past
    ∙ get_or-map builtin_symbol p.builtins k no_builtin no_symbol inside
