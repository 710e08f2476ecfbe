-- The two functions that share their tables can be written.
use Rattle.std.proofs.Common.{zero, suc, [], ◌∷◌, arith, rules, negsuc}
use Rattle.std.specs.Prelude.{codes}
use Rattle.glk_pctab.specs.Functions.{Pclntab, Function}
use Rattle.glk_pctab.specs.Sound.{CanWriteAll}

abbrev pub first : Function
first = record {
  name = codes "f";
  unit = 0;
  start = 0;
  args = 0;
  deferreturn = 0;
  start_line = 0;
  id = 0;
  flag = 0;
  pcsp = [];
  pcfile = 2 ∷ 16 ∷ 0 ∷ [];
  pcline = 12 ∷ 16 ∷ 0 ∷ [];
  pcinline = [];
  inlined = [];
  pcdata = [];
  funcdata = [];
}

abbrev pub second : Function
second = record {
  name = codes "g";
  unit = 1;
  start = 16;
  args = 0;
  deferreturn = 0;
  start_line = 0;
  id = 0;
  flag = 0;
  pcsp = [];
  pcfile = 2 ∷ 16 ∷ 0 ∷ [];
  pcline = 12 ∷ 16 ∷ 0 ∷ [];
  pcinline = 2 ∷ 16 ∷ 0 ∷ [];
  inlined = record { node = record { name = codes "f"; parent = negsuc 0 }; id = 0; start_line = 0 } ∷ [];
  pcdata = [];
  funcdata = [];
}

abbrev pub sharing : Pclntab
sharing = record {
  functions = first ∷ second ∷ [];
  units = (codes "a.go" ∷ codes "b.go" ∷ []) ∷ (codes "a.go" ∷ []) ∷ [];
  text = 4198400;
  text_size = 32;
  trees = 0;
}

pub sharing_can_write : CanWriteAll sharing
sharing_can_write zero below = record { unit = search rules; pcdata = search rules; funcdata = search rules; trees = search rules }
sharing_can_write (suc zero) below = record { unit = search rules; pcdata = search rules; funcdata = search rules; trees = search rules }
sharing_can_write (suc (suc i)) below = absurd (omega arith)
