-- A URL is read, of the words or of the file, or more of the file.
use Rattle.std.proofs.Common.{◌≡◌, refl, [], sym, ◌∙◌, subst, string_bytes}
use Rattle.std.specs.Prelude.{◌≢◌}
use Rattle.client.specs.FileLines.{IsNextLine}
use Rattle.commands.specs.Given.{url_text}
use Rattle.crawl.specs.Reading.{AddsUrl, Reads, queue_shown}
use Rattle.client.specs.declared.lines.Line.{Line}
use Rattle.commands.specs.declared.crawl_options.UrlFile.TheVariants as files
use Rattle.crawl.proofs.Queues.{first_left, none_left, on_ok, reads_url, reads_word, same_words}
use Rattle.crawl.proofs.queue.Queue.read_one.Goals as goal

pub returns-in-Some-clause-reads : goal.returns-in-Some-clause-reads
returns-in-Some-clause-reads g c =
    let source = (g.R.Source.source c.args.input.now).bytes in
    let old = queue_shown c.args.self.now in
    let mid = queue_shown (record c.args.self.now { urls = c.pop.new.self }) in
    let new = queue_shown c.add_word.new.self in
    let url = url_text c.in-Some.url in
    let first = first_left c.args.self.now.urls.items c.pop.new.self.items c.in-Some.url c.in-Some.ensures.items in
    on_ok c.add_word.result (AddsUrl url mid new) (Reads old new source source) (λ adds. reads_word old mid new url source refl first refl refl refl refl adds) c.add_word.ensures.added

pub returns-in-Ok-Url-clause-reads : goal.returns-in-Ok-Url-clause-reads
returns-in-Ok-Url-clause-reads g c =
    let source = (g.R.Source.source c.args.input.now).bytes in
    let old = queue_shown c.args.self.now in
    let mid = queue_shown (record c.args.self.now { urls = c.pop.new.self; lines = c.next.new.self }) in
    let new = queue_shown c.add.new.self in
    let url = string_bytes c.in-Ok-Url.url in
    let none = c.in_default.ensures.cases in
    let was : old.left ≡ [] = none_left c.args.self.now.urls.items (sym c.args.self.now.urls.ok.0 ∙ none.0) in
    let is : mid.left ≡ [] = none_left c.pop.new.self.items (sym c.pop.new.self.ok.0 ∙ none.1) in
    let has : old.file ≢ files.None = λ p. (let e = rw p at c.eq.ensures in cc (sym e ∙ c.if-eq.false)) in
    let takes = subst (λ (line : Line). IsNextLine line old.lines mid.lines) c.in-Ok-Url.field-0-is c.in-Ok-Url.ensures.next in
    on_ok c.add.result (AddsUrl url mid new) (Reads old new source source) (λ adds. reads_url old mid new url source was has (same_words old mid.lines mid.left was is) takes adds) c.add.ensures.added

pub returns-in-Ok-Bad-clause-reads : goal.returns-in-Ok-Bad-clause-reads
returns-in-Ok-Bad-clause-reads g c =
    let source = (g.R.Source.source c.args.input.now).bytes in
    let old = queue_shown c.args.self.now in
    let mid = queue_shown (record c.args.self.now { urls = c.pop.new.self; lines = c.next.new.self }) in
    let new = queue_shown c.add_bad.new.self in
    let url = string_bytes c.in-Ok-Bad.url in
    let none = c.in_default.ensures.cases in
    let was : old.left ≡ [] = none_left c.args.self.now.urls.items (sym c.args.self.now.urls.ok.0 ∙ none.0) in
    let is : mid.left ≡ [] = none_left c.pop.new.self.items (sym c.pop.new.self.ok.0 ∙ none.1) in
    let has : old.file ≢ files.None = λ p. (let e = rw p at c.eq.ensures in cc (sym e ∙ c.if-eq.false)) in
    let takes = subst (λ (line : Line). IsNextLine line old.lines mid.lines) c.in-Ok-Bad.field-0-is c.in-Ok-Bad.ensures.next in
    on_ok c.add_bad.result (AddsUrl url mid new) (Reads old new source source) (λ adds. reads_url old mid new url source was has (same_words old mid.lines mid.left was is) takes adds) c.add_bad.ensures.added

pub returns-in-Ok-Bad-clause-counts_on : goal.returns-in-Ok-Bad-clause-counts_on
returns-in-Ok-Bad-clause-counts_on g c = on_ok c.add_bad.result (AddsUrl (string_bytes c.in-Ok-Bad.url) _ (queue_shown c.add_bad.new.self)) _ (λ adds none. c.requires.counts) c.add_bad.ensures.added
