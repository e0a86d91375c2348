-- What entities that are noted truthfully promise of every run.
use Rattle.std.specs.Prelude.{ℕ, List, Option}
use Rattle.pc_core.specs.{CoreData.CoreData, Formed.Formed, declared.declarations.Method.Method}
use Rattle.pc_semantics.specs.{Step.after, declared.mailbox.Message.Message, Configurations.Configuration}
use Rattle.pc_sends.specs.{Held.Held, Tables.{Reach, Sends, IsSending}, Found.MayWait}
use Rattle.pc_base.specs.Lists.{Each}

-- What holds at a configuration.
pub record ReachCovers (core : CoreData) (ents : List (Option ℕ)) (c : Configuration) : Type 0 where
  -- each frame is one of a method in Reach
  pub frames : Each (λ i a. Each (λ k f. Reach core ents f.method) a.frames) c.actors
  -- each waiting message is Main's first one or has a pair in Sends, so its method is in Reach
  pub waits : Each (λ i a. Each (λ k m. MayWait core ents m.method) a.mailbox) c.actors
  pub messages : Each (λ i a. Each (λ k m. Reach core ents m.method) a.mailbox) c.actors
  -- whatever is about to be sent has a pair: the frame's entity and the message's method
  pub sends : (i : ℕ) (x : Method) (m : Message) → IsSending core c i x m → Sends core ents x.entity m.method

-- What is held gives this over every list of actors.
abbrev pub HeldCovers : Type 0
HeldCovers = (core : CoreData) (ents : List (Option ℕ)) → Formed core → Held core ents → (list : List ℕ) → ReachCovers core ents (after core list)
