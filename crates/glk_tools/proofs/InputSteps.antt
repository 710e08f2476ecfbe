-- Standard input, read piece by piece.
use Rattle.std.proofs.Common.{◌≡◌, ◌≤◌, ◌<◌, ◌++◌, ◌∙◌, ℕ, List, [], Option, Some, None, Ok, Err, true, false, length, refl, sym, ap, subst, append_assoc, length-append, arith}
use Rattle.std.specs.Prelude.{IfSome, nat_le}
use Rattle.std.specs.Io.KnownBytes.{Consumes, IsAtEnd}
use Rattle.std.proofs.lemmas.List.{append-nil}
use Rattle.std.proofs.lemmas.Bool.Decides.{nat_tests}
use Rattle.glk_cause.specs.declared.cause.Cause.TheVariants as cause
use Rattle.glk_tools.specs.Stdin.{stdin, input_limit, IsWholeInput}

-- bytes are taken one after the other
pub takes_more : (a b c : Option (List ℕ)) (xs ys : List ℕ) → Consumes a b xs → Consumes b c ys → Consumes a c (xs ++ ys)
takes_more None b c xs ys h k = tt
takes_more (Some p) None c xs ys h k = absurd h
takes_more (Some p) (Some q) None xs ys h k = absurd k
takes_more (Some p) (Some q) (Some r) xs ys h k = h ∙ ap (λ t. xs ++ t) k ∙ sym (append_assoc xs ys r)

is_short : (n : ℕ) → n ≤ input_limit → nat_le n input_limit ≡ true
is_short n h = grind (arith, nat_tests)

is_long : (n : ℕ) → input_limit < n → nat_le n input_limit ≡ false
is_long n h = grind (arith, nat_tests)

short_given : (held : List ℕ) → length held ≤ input_limit → IsWholeInput held (Ok held)
short_given held h = rw (is_short (length held) h) refl

long_refused : (held : List ℕ) → input_limit < length held → IsWholeInput held (Err (cause.FileTooLong stdin input_limit))
long_refused held h = rw (is_long (length held) h) refl

-- all of it was read
pub read_whole : (a b : Option (List ℕ)) (bytes : List ℕ) → Consumes a b bytes → IsAtEnd b → length bytes ≤ input_limit → IfSome a (λ held. IsWholeInput held (Ok bytes))
read_whole None b bytes h end short = tt
read_whole (Some xs) None bytes h end short = absurd h
read_whole (Some xs) (Some ys) bytes h end short =
    let same : xs ≡ bytes = h ∙ ap (λ t. bytes ++ t) end ∙ append-nil bytes in
    subst (λ (t : List ℕ). IsWholeInput t (Ok bytes)) (sym same) (short_given bytes short)

pub read_to_end : (a b : Option (List ℕ)) (bytes : List ℕ) → Consumes a b bytes → IsAtEnd b → IfSome a (λ held. b ≡ Some [])
read_to_end None b bytes h end = tt
read_to_end (Some xs) None bytes h end = absurd h
read_to_end (Some xs) (Some ys) bytes h end = ap (λ (t : List ℕ). Some t) end

-- more than the limit was read
pub read_too_much : (a b : Option (List ℕ)) (bytes : List ℕ) → Consumes a b bytes → input_limit < length bytes
    → IfSome a (λ held. IsWholeInput held (Err (cause.FileTooLong stdin input_limit)))
read_too_much None b bytes h long = tt
read_too_much (Some xs) None bytes h long = absurd h
read_too_much (Some xs) (Some ys) bytes h long =
    long_refused xs (let size : length xs ≡ length (bytes ++ ys) = ap length h in let both = length-append bytes ys in omega (arith, size, both, long))
