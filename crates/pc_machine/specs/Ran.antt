-- The first task of a running frame was done inside the frame.
use Rattle.std.specs.Prelude.{◌≡◌, ℕ, List, ◌∷◌, drop, slice_get, IfSome}
use Rattle.pc_heap.specs.Objects.{ObjectMap}
use Rattle.pc_core.specs.CoreData.{CoreData}
use Rattle.pc_semantics.specs.{declared.actors.Actor.Actor, declared.frames.Frame.Frame, declared.outcome.Outcome.Outcome}
use Rattle.pc_tasks.specs.Inside.{StaysInside}
use Rattle.pc_machine.specs.Changed.{changed, framed, frames_of}

-- This leads from these objects, with frame f on top of those below it, to other objects and frames.
pub record RanFrames (core : CoreData) (objects : ObjectMap) (f : Frame) (below : List Frame) (o : Outcome) (objects' : ObjectMap) (frames : List Frame) : Type 0 where
  pub frame : Frame
  pub inside : StaysInside core objects f o objects' frame
  pub frames_are : frames ≡ frame ∷ below

-- The same for actor i: from these objects and actors to others.
pub record RanAt (core : CoreData) (objects : ObjectMap) (actors : List Actor) (i : ℕ) (o : Outcome) (objects' : ObjectMap) (actors' : List Actor) : Type 0 where
  pub frames : List Frame
  pub ran : IfSome (slice_get (frames_of actors i) 0) (λ f. RanFrames core objects f (drop 1 (frames_of actors i)) o objects' frames)
  pub actors_are : actors' ≡ changed actors i (framed frames)
