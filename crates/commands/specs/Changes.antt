-- What a subcommand leaves of files, inputs and standard output.
use Rattle.std.specs.Prelude.{◌≡◌, List, ℕ, Option}
use Rattle.endings.specs.Streams.{IsCut, Stream}
use Rattle.file_store.specs.Sources.{Input}
use Rattle.file_store.specs.Written.{Gains, Held, Written}

-- the files and standard output, before and after
pub record Change : Type 0 where
  pub was : Option Held
  pub has : Option Held
  pub old : Stream
  pub new : Stream

abbrev pub change : Option Held → Option Held → Stream → Stream → Change
change was has old new = record { was = was; has = has; old = old; new = new }

-- these files were written, and nothing was printed
abbrev pub Wrote : Change → Written → Type 0
Wrote c files = Gains c.was c.has files × (c.new ≡ c.old)

-- these files were written, and standard output took no more than the beginning of a text
abbrev pub Cuts : Change → List ℕ → Written → Type 0
Cuts c text files = Gains c.was c.has files × IsCut c.old c.new text

-- an input and standard output, before and after
pub record Exchange : Type 0 where
  pub before : Input
  pub after : Input
  pub had : Stream
  pub has : Stream

abbrev pub exchange : Input → Input → Stream → Stream → Exchange
exchange before after had has = record { before = before; after = after; had = had; has = has }

-- nothing was read or printed
abbrev pub IsQuiet : Exchange → Type 0
IsQuiet e = (e.after ≡ e.before) × (e.has ≡ e.had)
