-- The types that a certificate is made of, under one name.
pub use Rattle.region_mem.specs.declared.parameter.Mode.{Mode}
pub use Rattle.region_mem.specs.declared.parameter.Param.{Param}
pub use Rattle.vreg_groups.specs.declared.vector_length.Vlen.{Vlen}
pub use Rattle.cert_note.specs.declared.values.Version.{Version}
pub use Rattle.cert_note.specs.declared.values.EqualityTerm.{EqualityTerm}
pub use Rattle.cert_note.specs.declared.values.Budget.{Budget}
pub use Rattle.cert_note.specs.declared.values.VectorFact.{VectorFact}
pub use Rattle.cert_note.specs.declared.values.Equality.{Equality}
pub use Rattle.cert_note.specs.declared.values.RegisterFact.{RegisterFact}
pub use Rattle.cert_note.specs.declared.values.OrderFact.{OrderFact}
pub use Rattle.cert_note.specs.declared.values.Block.{Block}
pub use Rattle.cert_note.specs.declared.values.Contents.{Contents}
pub use Rattle.cert_note.specs.declared.values.Counts.{Counts}
pub use Rattle.cert_note.specs.declared.values.FactGroup.{FactGroup}
pub use Rattle.cert_note.specs.declared.values.Front.{Front}
