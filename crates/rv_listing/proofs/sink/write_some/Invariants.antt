use Rattle.std.specs.Io.KnownBytes.{Keeps}
use Rattle.rv_listing.proofs.sink.write_some.Given as goal

-- no write has taken a byte
abbrev pub invariant-loop : goal.invariant-loop
invariant-loop g l = Keeps (g.W.Outlet.contents l.fn.writer) (g.W.Outlet.contents l.writer)
