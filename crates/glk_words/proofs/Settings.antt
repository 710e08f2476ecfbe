-- The last setting of a flag.
use Rattle.std.proofs.Common.{◌≡◌, ◌≢◌, ◌≤◌, ◌<◌, ◌+◌, ◌++◌, ℕ, List, [], ◌∷◌, Option, Some, None, Contains, Bor, true, get_or, take, length, refl, ap, arith, add-one, take_all, append_assoc}
use Rattle.std.proofs.lemmas.Bool.{false≢true}
use Rattle.std.proofs.Math.Seq.{take-suc}
use Rattle.std.proofs.lemmas.List.{map-append}
use Rattle.std.proofs.lemmas.List.Elements.{All-append, All-cons, All-nil, Contains-append_right}
use Rattle.glk_words.specs.declared.commands.Flag.{Flag}
use Rattle.glk_words.specs.declared.command_line.FlagSetting.{FlagSetting as CodeFlagSetting}
use Rattle.glk_words.specs.declared.commands.Flag.TheVariants as flag
use Rattle.glk_words.specs.Values.{truth_of, is_some}
use Rattle.glk_words.specs.Commands.{is_truth, accepts}
use Rattle.glk_words.specs.CommandLine.{FlagSetting, setting_view, settings_view, LacksFlag, IsGiven, IsValueOf, Has, AreAccepted}

pub more_settings : (items : List CodeFlagSetting) (n : ℕ) (d : CodeFlagSetting) → n < length items
    → settings_view (take (n + 1) items) ≡ settings_view (take n items) ++ setting_view (get_or items n d) ∷ []
more_settings items n d inside =
    let h : take (n + 1) items ≡ take n items ++ get_or items n d ∷ [] = rw (add-one n) (take-suc items n d inside) in
    rw h (map-append setting_view (take n items) (get_or items n d ∷ []))

pub here : (settings : List FlagSetting) (f : Flag) (value : List ℕ) → IsGiven (settings ++ record { flag = f; value = value } ∷ []) f value
here settings f value = record { before = settings; after = []; parts = refl; last = All-nil (λ t. t.flag ≢ f) }

pub lacks_more : (settings : List FlagSetting) (s : FlagSetting) (f : Flag) → s.flag ≢ f → LacksFlag settings f → LacksFlag (settings ++ s ∷ []) f
lacks_more settings s f other lacks = All-append (λ t. t.flag ≢ f) settings (s ∷ []) lacks (All-cons (λ t. t.flag ≢ f) s [] other (All-nil (λ t. t.flag ≢ f)))

pub given_more : (settings : List FlagSetting) (s : FlagSetting) (f : Flag) (value : List ℕ) → s.flag ≢ f → IsGiven settings f value → IsGiven (settings ++ s ∷ []) f value
given_more settings s f value other h = record {
  before = h.before;
  after = h.after ++ s ∷ [];
  parts = rw h.parts (append_assoc h.before (record { flag = f; value = value } ∷ h.after) (s ∷ []));
  last = lacks_more h.after s f other h.last;
}

-- a setting of the flag
pub found : (items : List CodeFlagSetting) (n : ℕ) (d : CodeFlagSetting) (f : Flag) → n < length items → (get_or items n d).flag ≡ f
    → IsGiven (settings_view (take (n + 1) items)) f (get_or items n d).value.now
found items n d f inside is =
    rw (more_settings items n d inside) (rw is (here (settings_view (take n items)) f (get_or items n d).value.now))

-- a setting of another flag
pub passed : (items : List CodeFlagSetting) (n : ℕ) (d : CodeFlagSetting) (f : Flag) (last : Option (Bor (List ℕ))) → n < length items → ((get_or items n d).flag ≡ f → ⊥)
    → IsValueOf (settings_view (take n items)) f last → IsValueOf (settings_view (take (n + 1) items)) f last
passed items n d f None inside other h =
    rw (more_settings items n d inside) (lacks_more (settings_view (take n items)) (setting_view (get_or items n d)) f other h)
passed items n d f (Some value) inside other h =
    rw (more_settings items n d inside) (given_more (settings_view (take n items)) (setting_view (get_or items n d)) f value.now other h)

-- all settings
pub whole : (items : List CodeFlagSetting) (n : ℕ) (f : Flag) (last : Option (Bor (List ℕ))) → length items ≤ n
    → IsValueOf (settings_view (take n items)) f last → IsValueOf (settings_view items) f last
whole items n f last all h = rw (take_all n items all) at h

-- a flag is given, or lacks
pub not_both : (settings : List FlagSetting) (f : Flag) → LacksFlag settings f → Has settings f → ⊥
not_both settings f lacks h =
    let s : FlagSetting = record { flag = f; value = h.0 } in
    let all : LacksFlag (h.1.before ++ s ∷ h.1.after) f = rw h.1.parts at lacks in
    let here : Contains (h.1.before ++ s ∷ h.1.after) s = Contains-append_right h.1.before (s ∷ h.1.after) s (0, omega arith, refl) in
    all here.0 s here.1 (ap (λ t. t.flag) here.2)

-- the value of a flag that is given is one that the flag takes
pub given_accepted : (settings : List FlagSetting) (f : Flag) (value : List ℕ) → AreAccepted settings → IsGiven settings f value → accepts f value ≡ true
given_accepted settings f value accepted h =
    let s : FlagSetting = record { flag = f; value = value } in
    let all : AreAccepted (h.before ++ s ∷ h.after) = rw h.parts at accepted in
    let here : Contains (h.before ++ s ∷ h.after) s = Contains-append_right h.before (s ∷ h.after) s (0, omega arith, refl) in
    rw here.2 at (all here.0 s here.1)

-- a truth flag takes truth values alone
pub truth_accepted : (f : Flag) (value : List ℕ) → is_truth f ≡ true → accepts f value ≡ true → is_some (truth_of value) ≡ true
unfolding accepts
truth_accepted flag.Strip value is takes = takes
truth_accepted flag.OmitDwarf value is takes = takes
truth_accepted flag.ByAddress value is takes = takes
truth_accepted flag.Size value is takes = takes
truth_accepted flag.Inline value is takes = takes
truth_accepted flag.Out value is takes = absurd (false≢true is)
truth_accepted flag.ImportCfg value is takes = absurd (false≢true is)
truth_accepted flag.Numbers value is takes = absurd (false≢true is)
truth_accepted flag.Builtin value is takes = absurd (false≢true is)
truth_accepted flag.Entry value is takes = absurd (false≢true is)
truth_accepted flag.Workers value is takes = absurd (false≢true is)
truth_accepted flag.BuildMode value is takes = absurd (false≢true is)
truth_accepted flag.BuildId value is takes = absurd (false≢true is)
truth_accepted flag.ExtLd value is takes = absurd (false≢true is)
truth_accepted flag.Sort value is takes = absurd (false≢true is)
truth_accepted flag.Seed value is takes = absurd (false≢true is)
truth_accepted flag.Count value is takes = absurd (false≢true is)
