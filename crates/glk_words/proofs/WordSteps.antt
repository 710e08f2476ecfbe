-- What each sort of word leads to, as the code meets it.
use Rattle.std.proofs.Common.{◌≡◌, ◌<◌, ◌+◌, ℕ, List, [], Option, Some, None, Err, get_or, drop, length, refl, sym, ◌∙◌, ap}
use Rattle.std.specs.Borrow.{Bor}
use Rattle.glk_base.specs.declared.fault.Fault.{Fault}
use Rattle.glk_base.specs.declared.flags.FlagWord.{FlagWord}
use Rattle.glk_base.specs.declared.flags.FlagWord.TheVariants as word
use Rattle.glk_base.specs.Flags.{flag, flag_of, flag_view}
use Rattle.glk_words.specs.declared.commands.Command.{Command}
use Rattle.glk_words.specs.declared.commands.Flag.{Flag}
use Rattle.glk_words.specs.declared.usage.UsageBad.{UsageBad}
use Rattle.glk_words.specs.declared.usage.Why.TheVariants as why
use Rattle.glk_words.specs.Values.{found_in}
use Rattle.glk_words.specs.Commands.{flags_of}
use Rattle.glk_words.specs.CommandLine.{FlagSetting, on, usage, operands, with_value, with_flag, invocation_from, Fails}
use Rattle.glk_words.specs.Steps.{value_view, Stops}
use Rattle.glk_words.proofs.Steps.{stopped, goes_on, plain_word, end_word, bad_word, ended, past}

module _ (c : Command) (settings : List FlagSetting) (texts : List (List ℕ)) (n : ℕ) (text : List ℕ) (inside : n < length texts) (here : text ≡ get_or texts n []) where
  -- the value of a flag that waits for it
  pub value_stops : (pending : Option Flag) (f : Flag) (bad : Fault UsageBad) → pending ≡ Some f → Stops (with_value f settings n text) bad
      → Fails (invocation_from c pending settings n (drop n texts)) bad
  value_stops pending f bad is h = rw is (stopped c (Some f) settings texts n bad inside (rw (← here) h))

  pub value_goes_on : (pending : Option Flag) (f : Flag) (w : Option Flag) (g : List FlagSetting) → pending ≡ Some f → with_value f settings n text ≡ on w g
      → invocation_from c w g (n + 1) (drop (n + 1) texts) ≡ invocation_from c pending settings n (drop n texts)
  value_goes_on pending f w g is h = rw is (goes_on c (Some f) settings texts n w g inside (rw (← here) h))

  -- words that are no values
  pub plain_ends : (pending : Option Flag) (s : FlagWord) → pending ≡ None → flag_view s ≡ flag_of text → s ≡ word.Plain
      → invocation_from c pending settings n (drop n texts) ≡ operands c settings n (drop n texts)
  plain_ends pending s is says was = rw is (plain_word c settings texts n inside (rw (← here) (sym says ∙ ap flag_view was)))

  pub end_ends : (pending : Option Flag) (s : FlagWord) → pending ≡ None → flag_view s ≡ flag_of text → s ≡ word.End
      → invocation_from c pending settings n (drop n texts) ≡ operands c settings (n + 1) (drop (n + 1) texts)
  end_ends pending s is says was = rw is (end_word c settings texts n inside (rw (← here) (sym says ∙ ap flag_view was)))

  pub bad_ends : (pending : Option Flag) (s : FlagWord) → pending ≡ None → flag_view s ≡ flag_of text → s ≡ word.BadSyntax
      → invocation_from c pending settings n (drop n texts) ≡ Err (usage n why.BadSyntax)
  bad_ends pending s is says was = rw is (bad_word c settings texts n inside (rw (← here) (sym says ∙ ap flag_view was)))

  named_flag : (name : Bor (List ℕ)) (value : Option (Bor (List ℕ))) → flag_view (word.Flag name value) ≡ flag name.now (value_view value)
  named_flag name None = refl
  named_flag name (Some value) = refl

  flag_here : (s : FlagWord) (name : Bor (List ℕ)) (value : Option (Bor (List ℕ))) → flag_view s ≡ flag_of text → s ≡ word.Flag name value
      → flag_of (get_or texts n []) ≡ flag name.now (value_view value)
  flag_here s name value says was = rw (← here) (sym says ∙ ap flag_view was ∙ named_flag name value)

  pub flag_stops : (pending : Option Flag) (s : FlagWord) (name : Bor (List ℕ)) (value : Option (Bor (List ℕ))) (bad : Fault UsageBad)
      → pending ≡ None → flag_view s ≡ flag_of text → s ≡ word.Flag name value
      → Stops (with_flag (found_in (flags_of c) name.now) settings n (value_view value)) bad
      → Fails (invocation_from c pending settings n (drop n texts)) bad
  flag_stops pending s name value bad is says was h =
      rw is (stopped c None settings texts n bad inside (rw (flag_here s name value says was) h))

  pub flag_goes_on : (pending : Option Flag) (s : FlagWord) (name : Bor (List ℕ)) (value : Option (Bor (List ℕ))) (w : Option Flag) (g : List FlagSetting)
      → pending ≡ None → flag_view s ≡ flag_of text → s ≡ word.Flag name value
      → with_flag (found_in (flags_of c) name.now) settings n (value_view value) ≡ on w g
      → invocation_from c w g (n + 1) (drop (n + 1) texts) ≡ invocation_from c pending settings n (drop n texts)
  flag_goes_on pending s name value w g is says was h =
      rw is (goes_on c None settings texts n w g inside (rw (flag_here s name value says was) h))

-- after the last word
pub waits_in_vain : (c : Command) (settings : List FlagSetting) (texts : List (List ℕ)) (n m : ℕ) (pending : Option Flag) (f : Flag) → n ≡ length texts → m ≡ n → pending ≡ Some f
    → invocation_from c pending settings n (drop n texts) ≡ Err (usage m why.MissingValue)
waits_in_vain c settings texts n m pending f last same is = rw same (rw is (ended c (Some f) settings texts n last))

pub none_waits : (c : Command) (settings : List FlagSetting) (texts : List (List ℕ)) (n m : ℕ) (pending : Option Flag) → n ≡ length texts → m ≡ n → pending ≡ None
    → invocation_from c pending settings n (drop n texts) ≡ operands c settings m (drop m texts)
none_waits c settings texts n m pending last same is =
    let h : invocation_from c None settings n (drop n texts) ≡ operands c settings n (drop n texts) =
    ended c None settings texts n last ∙ ap (operands c settings n) (sym (past texts n last)) in
    rw same (rw is h)
