-- One word of a command line after the other.
use Rattle.std.proofs.Common.{◌≡◌, ◌<◌, ◌+◌, ℕ, List, [], ◌∷◌, Option, None, Result, Err, true, false, get_or, drop, length, refl, arith, add-one, drop-cons, string_bytes, String}
use Rattle.std.proofs.Math.Seq.{drop-length}
use Rattle.std.proofs.lemmas.List.{length-map}
use Rattle.std.specs.declared.alloc.Global.{Global}
use Rattle.glk_base.specs.Flags.{plain, end, bad_syntax, flag_of}
use Rattle.glk_base.specs.declared.fault.Fault.{Fault}
use Rattle.glk_base.specs.declared.fault.Fault.TheVariants as fault
use Rattle.glk_words.specs.declared.commands.Command.{Command}
use Rattle.glk_words.specs.declared.commands.Flag.{Flag}
use Rattle.glk_words.specs.declared.usage.UsageBad.{UsageBad}
use Rattle.glk_words.specs.declared.usage.Why.TheVariants as why
use Rattle.glk_words.specs.Commands.{takes_file}
use Rattle.glk_words.specs.Words.{texts_of}
use Rattle.glk_words.specs.CommandLine.{FlagSetting, Invocation, stop, on, usage, operands, next, at_end, invocation_from, Fails}
use Rattle.glk_words.specs.Steps.{Stops}

-- the list from index n on
pub cut : (texts : List (List ℕ)) (n : ℕ) → n < length texts → drop n texts ≡ get_or texts n [] ∷ drop (n + 1) texts
cut texts n inside = rw (add-one n) (drop-cons texts n [] inside)

pub past : (texts : List (List ℕ)) (n : ℕ) → n ≡ length texts → drop n texts ≡ []
past texts n after = rw after (drop-length texts)

pub many : (words : List (String Global)) → length (texts_of words) ≡ length words
many words = length-map words string_bytes

-- the words after the flags
pub extra_alone : (c : Command) (settings : List FlagSetting) (texts : List (List ℕ)) (n : ℕ) → takes_file c ≡ false → n < length texts
    → operands c settings n (drop n texts) ≡ Err (usage n why.ExtraWord)
unfolding operands
extra_alone c settings texts n alone inside = rw (cut texts n inside) (rw alone refl)

pub extra_after : (c : Command) (settings : List FlagSetting) (texts : List (List ℕ)) (n : ℕ) → takes_file c ≡ true → n + 1 < length texts
    → operands c settings n (drop n texts) ≡ Err (usage (n + 1) why.ExtraWord)
unfolding operands
extra_after c settings texts n one inside =
    let here : n < length texts = omega (arith, inside) in
    rw (cut texts n here) (rw (cut texts (n + 1) inside) (rw one refl))

-- a word at which the answer is known
pub stops : (c : Command) (pending : Option Flag) (settings : List FlagSetting) (texts : List (List ℕ)) (n : ℕ) (answer : Result Invocation UsageBad)
    → n < length texts → next c pending settings n (get_or texts n []) (drop (n + 1) texts) ≡ stop answer
    → invocation_from c pending settings n (drop n texts) ≡ answer
unfolding invocation_from
stops c pending settings texts n answer inside is = rw (cut texts n inside) (rw is refl)

-- a word after which the words go on
pub goes_on : (c : Command) (pending : Option Flag) (settings : List FlagSetting) (texts : List (List ℕ)) (n : ℕ) (w : Option Flag) (g : List FlagSetting)
    → n < length texts → next c pending settings n (get_or texts n []) (drop (n + 1) texts) ≡ on w g
    → invocation_from c w g (n + 1) (drop (n + 1) texts) ≡ invocation_from c pending settings n (drop n texts)
unfolding invocation_from
goes_on c pending settings texts n w g inside is = rw (cut texts n inside) (rw is refl)

-- a word at which the words are found faulty, or out of memory
pub stopped : (c : Command) (pending : Option Flag) (settings : List FlagSetting) (texts : List (List ℕ)) (n : ℕ) (f : Fault UsageBad)
    → n < length texts → Stops (next c pending settings n (get_or texts n []) (drop (n + 1) texts)) f
    → Fails (invocation_from c pending settings n (drop n texts)) f
stopped c pending settings texts n (fault.Bad bad) inside is = stops c pending settings texts n (Err bad) inside is
stopped c pending settings texts n fault.OutOfMemory inside is = tt

-- the first plain word, and the end of the flags
pub plain_word : (c : Command) (settings : List FlagSetting) (texts : List (List ℕ)) (n : ℕ) → n < length texts → flag_of (get_or texts n []) ≡ plain
    → invocation_from c None settings n (drop n texts) ≡ operands c settings n (drop n texts)
plain_word c settings texts n inside is =
    let h : invocation_from c None settings n (drop n texts) ≡ operands c settings n (get_or texts n [] ∷ drop (n + 1) texts) =
    stops c None settings texts n _ inside (rw is refl) in
    rw (← cut texts n inside) at h

pub end_word : (c : Command) (settings : List FlagSetting) (texts : List (List ℕ)) (n : ℕ) → n < length texts → flag_of (get_or texts n []) ≡ end
    → invocation_from c None settings n (drop n texts) ≡ operands c settings (n + 1) (drop (n + 1) texts)
end_word c settings texts n inside is = stops c None settings texts n _ inside (rw is refl)

pub bad_word : (c : Command) (settings : List FlagSetting) (texts : List (List ℕ)) (n : ℕ) → n < length texts → flag_of (get_or texts n []) ≡ bad_syntax
    → invocation_from c None settings n (drop n texts) ≡ Err (usage n why.BadSyntax)
bad_word c settings texts n inside is = stops c None settings texts n _ inside (rw is refl)

-- after the last word
pub ended : (c : Command) (pending : Option Flag) (settings : List FlagSetting) (texts : List (List ℕ)) (n : ℕ) → n ≡ length texts
    → invocation_from c pending settings n (drop n texts) ≡ at_end c pending settings n
unfolding invocation_from
ended c pending settings texts n last = rw (past texts n last) refl
