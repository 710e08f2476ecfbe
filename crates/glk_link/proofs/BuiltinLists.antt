-- The builtin list of the lines of a file, of which there is one.
use Rattle.std.proofs.Common.{◌≡◌, ◌<◌, ◌^◌, ◌⊎◌, inl, inr, ℕ, Bool, true, false, not, cond, List, [], ◌∷◌, All, length, map, get_or, refl, sym, ap, ◌∙◌, subst, arith}
use Rattle.std.specs.Fmt.{decimal}
use Rattle.std.specs.List.{filter}
use Rattle.std.specs.Str.{is_utf8}
use Rattle.std.proofs.lemmas.Bool.{false≢true}
use Rattle.std.proofs.lemmas.List.{get_or-map, length-map}
use Rattle.std.proofs.lemmas.List.Elements.{All-head, All-tail, All-from_get_or}
use Rattle.glk_base.specs.Lines.{is_skipped, trimmed_line, line_at, first_word, after_word, AllGood, IsFirstBad}
use Rattle.glk_obj.proofs.KindNumbers.{one_spelling}
use Rattle.glk_arena.specs.Builtins.{Builtin, Gives, IsGood, IsGoodLine, EachGives, AreListed}
use Rattle.glk_package.proofs.Decided.{IsDecided, all_of, one_of, below, is_true, is_false, same_bytes, if_same, some_below}
use Rattle.glk_link.proofs.LineSome.{good_or_bad}

-- a line gives one builtin
gives_one : (line : List ℕ) (a b : Builtin) → Gives line a → Gives line b → a ≡ b
gives_one line a b g h =
    let names : a.name ≡ b.name = g.name ∙ sym h.name in
    let abis : a.abi ≡ b.abi = one_spelling (after_word line) a.abi b.abi g.digits h.digits (omega (arith, g.low)) (omega (arith, h.low)) in
    ap (λ n. let x : Builtin = record { name = n; abi = a.abi } in x) names ∙ ap (λ n. let x : Builtin = record { name = b.name; abi = n } in x) abis

each_once : (ls : List (List ℕ)) (a b : List Builtin) → EachGives ls a → EachGives ls b → a ≡ b
each_once [] [] [] g h = refl
each_once [] [] (y ∷ ys) g h = absurd h
each_once [] (x ∷ xs) b g h = absurd g
each_once (l ∷ ls) [] b g h = absurd g
each_once (l ∷ ls) (x ∷ xs) [] g h = absurd h
each_once (l ∷ ls) (x ∷ xs) (y ∷ ys) g h = ap (λ z. z ∷ xs) (gives_one l x y g.0 h.0) ∙ ap (λ zs. y ∷ zs) (each_once ls xs ys g.1 h.1)

pub builtins_once : (ls : List (List ℕ)) (a b : List Builtin) → AreListed ls a → AreListed ls b → a ≡ b
builtins_once ls a b g h = each_once _ a b g h

-- Some list.

abbrev named : List ℕ → ℕ → Builtin
named line abi = record { name = first_word line; abi = abi }

gives_this : (line : List ℕ) (abi : ℕ) → IsDecided (Gives line (named line abi))
gives_this line abi =
    if_same ((is_utf8 line ≡ true) × ((is_skipped line ≡ false) × ((after_word line ≡ decimal abi) × (abi < 2 ^ 16)))) (Gives line (named line abi))
    (λ h. record { text = h.0; read = h.1.0; name = refl; digits = h.1.1.0; low = h.1.1.1 })
    (λ h. (h.text, (h.read, (h.digits, h.low))))
    (all_of _ _ (is_true (is_utf8 line)) (all_of _ _ (is_false (is_skipped line)) (all_of _ _ (same_bytes (after_word line) (decimal abi)) (below abi (2 ^ 16)))))

gives_some : (line : List ℕ) → IsDecided ((builtin : Builtin) × Gives line builtin)
gives_some line =
    if_same ((abi : ℕ) × (abi < 2 ^ 16) × Gives line (named line abi)) ((builtin : Builtin) × Gives line builtin)
    (λ h. (named line h.0, h.2))
    (λ h. (h.0.abi, h.1.low, record { text = h.1.text; read = h.1.read; name = refl; digits = h.1.digits; low = h.1.low }))
    (some_below (2 ^ 16) (λ abi. Gives line (named line abi)) (gives_this line))

good_line : (line : List ℕ) → IsDecided (IsGood line)
good_line line = one_of _ _ (is_true (is_skipped line)) (gives_some line)

pub builtin_lines : (ls : List (List ℕ)) → AllGood ls (IsGoodLine ls) ⊎ ((number : ℕ) × IsFirstBad ls (IsGoodLine ls) number)
builtin_lines ls = good_or_bad ls (IsGoodLine ls) (λ k. good_line (line_at ls k))

abbrev is_read : List ℕ → Bool
is_read line = not (is_skipped line)

-- a good line more
each_step : (t : List ℕ) (ts : List (List ℕ)) → ((list : List Builtin) × EachGives (filter is_read ts) list) → IsGood t → (list : List Builtin) × EachGives (filter is_read (t ∷ ts)) list
each_step t ts rest good = by (is_skipped t) refl good
  where
    by : (b : Bool) → is_skipped t ≡ b → IsGood t → (list : List Builtin) × EachGives (cond (not b) (t ∷ filter is_read ts) (filter is_read ts)) list
    by true e good = rest
    by false e (inl skipped) = absurd (false≢true (sym e ∙ skipped))
    by false e (inr (builtin, gives)) = (builtin ∷ rest.0, (gives, rest.1))

each_some : (ts : List (List ℕ)) → All IsGood ts → (list : List Builtin) × EachGives (filter is_read ts) list
each_some [] all = ([], tt)
each_some (t ∷ ts) all = each_step t ts (each_some ts (All-tail IsGood t ts all)) (All-head IsGood t ts all)

pub builtins_some : (ls : List (List ℕ)) → AllGood ls (IsGoodLine ls) → (list : List Builtin) × AreListed ls list
builtins_some ls good =
    each_some (map trimmed_line ls) (All-from_get_or IsGood (map trimmed_line ls) [] (λ i h.
    let long = length-map ls trimmed_line in
    let inside : i < length ls = omega (arith, h, long) in
    subst IsGood (sym (get_or-map trimmed_line ls i [] [] inside)) (good i inside)))
