-- What a dial keeps where it is told of a place, or tells of one.
use Rattle.std.proofs.Common.{refl, ◌∙◌}
use Rattle.exchange.specs.Dialling.{DialShown, KeepsDial}

-- nothing was told
pub keeps_dial : (dial : DialShown) → KeepsDial dial dial
keeps_dial dial = record { counted = refl; opens = refl; turns = refl; begun = λ other is. is; kept = λ other is. is; source = refl }

-- one thing after another
pub keeps_dial_on : (old middle new : DialShown) → KeepsDial old middle → KeepsDial middle new → KeepsDial old new
keeps_dial_on old middle new first next = record {
  counted = next.counted ∙ first.counted;
  opens = next.opens ∙ first.opens;
  turns = next.turns ∙ first.turns;
  begun = λ other is. first.begun other (next.begun other is);
  kept = λ other is. next.kept other (first.kept other is);
  source = next.source ∙ first.source;
}
