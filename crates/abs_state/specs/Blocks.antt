-- What is known of a machine where a block begins, and where a run does.
use Rattle.std.specs.Prelude.{None, Some, []}
use Rattle.abs_state.specs.Words.{ImageView, vlenb_of, Block, CertificateView}
use Rattle.abs_state.specs.declared.state.Way.TheVariants.{To}
use Rattle.abs_domain.specs.Numbers.{value_at}
use Rattle.abs_domain.specs.Zones.{zones_of}
use Rattle.abs_state.specs.State.{AbstractView}
use Rattle.abs_domain.specs.Starts.{start_numbers, entry_numbers}

-- what is known where a block begins
unfoldable pub at_block_of : ImageView → CertificateView → Block → AbstractView
at_block_of image certificate block =
    let numbers =
    start_numbers certificate.parameters block.registers.items block.orders.items in
    record {
      vlenb = vlenb_of certificate.vlen;
      numbers = numbers;
      zones = zones_of image certificate.parameters;
      vtype = block.vtype;
      groups = block.vectors.items;
      budget = Some block.budget;
      paid = value_at numbers block.budget.register;
      second_paid = value_at numbers block.budget.second_register;
      words = 0;
      way = To block.start;
    }

-- what is known where a run begins
unfoldable pub at_entry_of : ImageView → CertificateView → AbstractView
at_entry_of image certificate =
    let numbers = entry_numbers certificate.parameters in
    record {
      vlenb = vlenb_of certificate.vlen;
      numbers = numbers;
      zones = zones_of image certificate.parameters;
      vtype = None;
      groups = [];
      budget = None;
      paid = value_at numbers 0;
      second_paid = value_at numbers 0;
      words = 0;
      way = To image.entry;
    }
