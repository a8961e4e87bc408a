-- Two hosts that tests turn to and from: at which table the leases of each are made.
use Rattle.bundle.specs.Seats.{Tables}

-- of the one at the desk, and of the other one
pub record TwoHosts : Type 0 where
  pub here : Tables
  pub there : Tables
