use denote.Param.{param}
use denote.Param.Send.{sendable, shr_send}
use Rattle.std.proofs.Common.{[], ◌∷◌}
use Rattle.std.proofs.Crossing.{crosses}
use Rattle.std.specs.contracts.alloc.Global as Global
use Rattle.std.proofs.alloc.Global.TheSendSync as heap
use Rattle.ba_cache.specs.contracts.cache.Cache as Cache
use Rattle.ba_cache.specs.contracts.cache.CachePass as CachePass
use Rattle.ba_cache.proofs.Crossing.{cache_pass_send, cache_sync}
use Rattle.ba_base_tests.proofs.Captures.{captures_send}
use Rattle.ba_base_tests.proofs.tests.cache.run.Goals as goal

pub join-one-requires-send-F : goal.join-one-requires-send-F
join-one-requires-send-F g c κs within =
    captures_send 1 _ _ (_ ∷ _ ∷ _ ∷ CachePass.the_row ∷ [])
    (shr_send _ _ (param 0 g.row.R) c.type_bounds.sync-R, (shr_send _ _ Global.the_row heap.the_sync, (shr_send _ _ Cache.the_row cache_sync, (cache_pass_send, tt))))

pub join-one-requires-send-A : goal.join-one-requires-send-A
join-one-requires-send-A g c κs within = search (sendable, crosses, cache_pass_send) depth 40
