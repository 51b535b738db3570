-- A cache may be shared by threads, and a pass on it may go to another thread. Each type by its fields, since a search through all at once ends at its limit.
use denote.Param.Send.{IsSend, IsSync, sendable}
use denote.Param.SendFields.{declared_send, declared_sync}
use Rattle.std.proofs.Crossing.{crosses, Vec-send}
use Rattle.std.proofs.alloc.Global.TheSendSync as heap
use Rattle.lru.proofs.cache.LruCache.TheSendSync as lru
use Rattle.ba_model.specs.contracts.list.List as Items
use Rattle.ba_model.proofs.list.List.TheSendSync as items
use Rattle.ba_turn.specs.contracts.pass.Pass as Pass
use Rattle.ba_turn.proofs.pass.Pass.TheSendSync as pass
use Rattle.ba_turn.proofs.turn.Turn.TheSendSync as turn
use Rattle.ba_cache.specs.contracts.cache.Cache as Cache
use Rattle.ba_cache.specs.contracts.cache.CachePass as CachePass
use Rattle.ba_cache.specs.contracts.call.Kept as Kept
use Rattle.ba_cache.specs.contracts.call.ShelfCall as ShelfCall
use Rattle.ba_cache.specs.contracts.shelf.Shelf as Shelf
use Rattle.ba_cache.proofs.call.Kept.TheSendSync as kept
use Rattle.ba_cache.proofs.key.Key.TheSendSync as key

call_send : IsSend ShelfCall.the_row
call_send = search (sendable, crosses) depth 40

templates_send : IsSend (Items.the_row Kept.the_row)
templates_send = items.the_send Kept.the_row kept.the_send

shelf_send : IsSend Shelf.the_row
shelf_send = declared_send Shelf.the_type (
  heap.the_send,
  (
    search (sendable, crosses, lru.the_send, key.the_send, key.the_sync, templates_send, heap.the_send) depth 40,
    (
      search sendable,
      (
        Vec-send ShelfCall.the_row call_send,
        tt,
      ),
    ),
  ),
)

pass_send : IsSend (Pass.the_row Shelf.the_row ShelfCall.the_row)
pass_send = pass.the_send Shelf.the_row ShelfCall.the_row shelf_send

-- a pass may go to another thread
pub cache_pass_send : IsSend CachePass.the_row
cache_pass_send = declared_send CachePass.the_type (Vec-send (Pass.the_row Shelf.the_row ShelfCall.the_row) pass_send, tt)

-- threads may share the cache
pub cache_sync : IsSync Cache.the_row
cache_sync = declared_sync Cache.the_type (search (sendable, crosses, turn.the_sync, shelf_send) depth 20, tt)
