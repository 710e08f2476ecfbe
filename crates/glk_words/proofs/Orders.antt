-- The order of symbols, one setting after the other.
use Rattle.std.proofs.Common.{◌≡◌, ◌≤◌, ◌<◌, ◌+◌, ◌++◌, ℕ, List, [], ◌∷◌, get_or, take, length, refl, ap, sym, ◌∙◌, take_all}
use Rattle.std.specs.Prelude.{unwrap_or, Option}
use Rattle.glk_words.specs.declared.values.SymbolOrder.{SymbolOrder}
use Rattle.glk_words.specs.declared.values.SymbolOrder.TheVariants as by
use Rattle.glk_words.specs.declared.command_line.FlagSetting.{FlagSetting as CodeFlagSetting}
use Rattle.glk_words.specs.CommandLine.{FlagSetting, settings_view, setting_view}
use Rattle.glk_words.specs.SymbolOrders.{order_by, order_after, symbol_order}
use Rattle.glk_words.proofs.Settings.{more_settings}

after_more : (order : SymbolOrder) (settings : List FlagSetting) (s : FlagSetting)
    → order_after order (settings ++ s ∷ []) ≡ unwrap_or (order_by s.flag s.value) (order_after order settings)
after_more order [] s = refl
after_more order (t ∷ more) s = after_more (unwrap_or (order_by t.flag t.value) order) more s

one_more : (items : List CodeFlagSetting) (n : ℕ) (d : CodeFlagSetting) → n < length items
    → symbol_order (settings_view (take (n + 1) items)) ≡ unwrap_or (order_by (get_or items n d).flag (get_or items n d).value.now) (symbol_order (settings_view (take n items)))
one_more items n d inside =
    ap symbol_order (more_settings items n d inside) ∙ after_more by.Name (settings_view (take n items)) (setting_view (get_or items n d))

pub step : (items : List CodeFlagSetting) (n : ℕ) (d : CodeFlagSetting) → n < length items → (order result : SymbolOrder) (asked : Option SymbolOrder)
    → result ≡ unwrap_or asked order → asked ≡ order_by (get_or items n d).flag (get_or items n d).value.now
    → order ≡ symbol_order (settings_view (take n items)) → result ≡ symbol_order (settings_view (take (n + 1) items))
step items n d inside order result asked is by_setting before =
    is ∙ ap (λ o. unwrap_or o order) by_setting
    ∙ ap (unwrap_or (order_by (get_or items n d).flag (get_or items n d).value.now)) before ∙ sym (one_more items n d inside)

pub all_settings : (items : List CodeFlagSetting) (n : ℕ) (order : SymbolOrder) → length items ≤ n
    → order ≡ symbol_order (settings_view (take n items)) → order ≡ symbol_order (settings_view items)
all_settings items n order all h = h ∙ ap (λ t. symbol_order (settings_view t)) (take_all n items all)
