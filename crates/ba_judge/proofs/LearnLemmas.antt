-- Shelves learn.
use Rattle.std.proofs.Common.{Result, Ok, Err, refl}
use Rattle.std.specs.Prelude.{OnErr, OnOk}
use Rattle.ba_judge.specs.Shelves.{IsKept, Learns, Looks, Stays}
use Rattle.ba_judge.specs.Shelves.Learns.{nothing, looks, keeps, both}
use Rattle.ba_judge.specs.declared.shelves.Shelves.{Shelves}
use Rattle.ba_kernel.specs.SearchStates.{Proof}
use Rattle.ba_template.specs.declared.shapes.Shape.{Shape}

pub same_learns : (it : Shelves) → Learns it it
same_learns it = nothing (record { each = λ k. refl })

pub kept_learns : {X E : Type 0} (result : Result X E) (proved : Proof) (old new : Shelves) → OnOk result (IsKept proved old new) → OnErr result (Stays old new) → Learns old new
kept_learns (Ok x) proved old new kept stays = keeps proved kept
kept_learns (Err e) proved old new kept stays = nothing stays

pub found_learns : (shape : Shape) (old between new : Shelves) → Looks shape old between → Learns between new → Learns old new
found_learns shape old between new looked learns = both (looks shape looked) learns
