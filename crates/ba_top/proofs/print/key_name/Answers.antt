use Rattle.std.proofs.Common.{[], ap, sym}
use Rattle.std.specs.Prelude.{option_map, unwrap_or}
use Rattle.ba_model.specs.declared.policy.CacheKey.{CacheKey}
use Rattle.ba_top.proofs.print.key_name.Goals as goal

pub returns : goal.returns
returns c = sym (ap (λ o. unwrap_or (option_map CacheKey.name o) []) c.get.ensures)
