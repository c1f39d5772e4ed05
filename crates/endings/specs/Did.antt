-- What a subcommand did, and its explanation.
use Rattle.std.specs.Prelude.{List, ℕ, [], Option, Some, None}
use Rattle.explanations.specs.Refusal.{told}
use Rattle.region_mem.specs.Faults.{fault_text}
use Rattle.region_mem.specs.declared.faults.Fault.{Fault}
use Rattle.endings.specs.Stands.{stand_text}
use Rattle.endings.specs.Words.{Status}
use Rattle.endings.specs.declared.did.Did.{Did}
use Rattle.endings.specs.declared.did.Did.TheVariants as did
use Rattle.endings.specs.declared.stands.Stand.{Stand}
use Rattle.endings.specs.declared.stop.Status.TheVariants as status
use Rattle.endings.specs.declared.stands.End.{End}
use Rattle.endings.specs.declared.stands.End.TheVariants as end

-- ---- what was done

abbrev pub stopped_at : Option Fault → Option Stand → Did
stopped_at fault (Some stand) = did.StoppedAt fault stand
stopped_at fault None = did.Stopped

-- how a run ended, and where it stands, where memory suffices to tell that
abbrev pub did_of : End → Option Stand → Did
did_of end.Ended stand = did.Done
did_of (end.Trapped fault) stand = stopped_at (Some fault) stand
did_of end.OutOfSteps stand = stopped_at None stand

abbrev pub status_with : Did → Status
status_with did.Done = status.Done
status_with did.Stopped = status.Stopped
status_with (did.StoppedAt fault stand) = status.Stopped

-- its explanation: the fault that a run met, if it did, and where it stands
abbrev pub did_text : Did → List ℕ
did_text did.Done = []
did_text did.Stopped = []
did_text (did.StoppedAt None stand) = stand_text stand
did_text (did.StoppedAt (Some fault) stand) = told (fault_text fault) (stand_text stand)
