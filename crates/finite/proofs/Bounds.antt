-- How large the tables of the automaton are.
use Rattle.std.proofs.Common.{◌*◌, ◌≤◌}
use Rattle.std.proofs.lemmas.Nat.{mul-le}
use Rattle.rules.specs.Rules.{Rule, Sound, blocks_of}
use Rattle.rules.proofs.Tables.{kinds_le}

module _ (r : Rule) (sound : Sound r) where
  pub windows_le : blocks_of r * r.kinds ≤ 256
  windows_le = mul-le (blocks_of r) r.kinds 16 16 sound.small (kinds_le sound)

  pub symbols_le : r.kinds * r.kinds ≤ 256
  symbols_le = mul-le r.kinds r.kinds 16 16 (kinds_le sound) (kinds_le sound)
