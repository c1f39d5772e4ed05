use Rattle.std.proofs.Common.{◌≡◌, ◌≤◌, ◌+◌, ◌-◌, ◌^◌, ◌⊎◌, length}
use Rattle.std.specs.Io.KnownBytes.{Consumes}
use Rattle.file_store.proofs.store.read_opened.Given as goal

-- the bytes so far are what the file gave, and not too many, and each turn was a read that did not fail
abbrev pub invariant-loop : goal.invariant-loop
invariant-loop g l = record {
  gave : Consumes (g.D.Reader.Read.remaining l.initial.file) (g.D.Reader.Read.remaining l.file) l.bytes.items;
  few : length l.bytes.items ≤ l.most;
  same : g.D.System.known l.system ≡ g.D.System.known l.initial.system;
  turns : (g.D.System.reads l.initial.system + l.counter ≤ g.D.System.reads l.system) ⊎ (2 ^ 64 - 1 ≤ g.D.System.reads l.system);
  within : g.D.System.reads l.system ≤ g.D.System.reads l.initial.system + l.counter;
  heard : g.D.System.failures l.system ≡ g.D.System.failures l.initial.system;
}
