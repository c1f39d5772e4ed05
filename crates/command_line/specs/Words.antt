-- What several definitions here speak of.
pub use Rattle.clap.specs.Kinds.{Kinds}
pub use Rattle.clap.specs.Words.{kind_of}
pub use Rattle.command_line.specs.declared.line.asked.Line.{Line}
pub use Rattle.command_line.specs.declared.line.asked.Line.TheVariants.{Check, Make, Mon, Run, Try}
pub use Rattle.command_line.specs.declared.line.asked.LineError.{LineError}
