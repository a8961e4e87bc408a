use Rattle.std.proofs.Common.{◌≡◌, ◌++◌, false, length, map, string_bytes}
use Rattle.std.specs.Prelude.{reverse}
use Rattle.std.specs.List.{All}
use Rattle.commands.specs.Given.{url_texts}
use Rattle.command_line.specs.GetPlans.{IsGoodUrl}
use Rattle.command_line.proofs.get_urls.crawl_urls.Given as goal

abbrev pub decreases-loop-text : goal.decreases-loop-text
decreases-loop-text l = length l.left.items

abbrev pub invariant-loop-text : goal.invariant-loop-text
invariant-loop-text l = record {
  texts : url_texts l.made.items ++ map string_bytes (reverse l.left.items) ≡ map string_bytes l.fn.urls.items;
  good : l.skip_bad ≡ false → All IsGoodUrl (url_texts l.made.items);
}
