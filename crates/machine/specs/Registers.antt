-- The registers of a machine.
use Rattle.machine.specs.Machine.{Machine}
use Rattle.machine.specs.declared.registers.Registers.{Registers}

-- the registers of a machine
abbrev pub registers_of : Machine → Registers
registers_of m = record {
  pc = m.hart.pc;
  x = m.hart.x;
  vl = m.vectors.config.vl;
  vtype = m.vectors.config.vtype;
  vxrm = m.hart.vxrm;
  vxsat = m.hart.vxsat;
}
