use Rattle.std.proofs.Common.{◌≡◌, length, sym, ◌∙◌}
use Rattle.std.specs.Prelude.{string_bytes}
use Rattle.std.proofs.lemmas.List.{length-map}
use Rattle.conn_key.specs.Hosts.{keys_in}
use Rattle.conn_key.proofs.PlaceArms.{gives_anew, gives_next, gives_own, refused_memory, refuses_anew, refuses_full, refuses_next}
use Rattle.conn_key.proofs.place_table.PlaceTable.place.Goals as goal

pub returns-in-Some-clause-gives : goal.returns-in-Some-clause-gives
returns-in-Some-clause-gives g c =
    gives_own (g.P.Places.unused c.args.cache.now) (keys_in c.self.inside.hosts) c.self.inside.places c.args.self.now c.args.key.now c.place_in.result c.self.view_is c.place_in.ensures.place
    c.in-Some.place c.in-Some.is

pub append-requires : goal.append-requires
append-requires g c = sym c.place_in.ensures.place ∙ c.in_default.is

pub returns-in_err-append-clause-refuses : goal.returns-in_err-append-clause-refuses
returns-in_err-append-clause-refuses g c =
    let size : length (keys_in c.self.inside.hosts) ≡ c.len-given.result = length-map c.self.inside.hosts.keys string_bytes ∙ sym c.len-given.ensures.len in
    refused_memory c.from_residual.result (g.P.Places.unused c.args.cache.now) c.args.self.now c.args.key.now c.from_residual.ensures.1
    (refuses_next (g.P.Places.unused c.args.cache.now) (keys_in c.self.inside.hosts) c.self.inside.places c.args.self.now c.args.key.now c.place_in.result c.self.view_is c.place_in.ensures.place
    c.in_default.is c.len-given.result size c.if-given-self.true)

pub returns-then-given-self-clause-gives : goal.returns-then-given-self-clause-gives
returns-then-given-self-clause-gives g c =
    let size : length (keys_in c.self.inside.hosts) ≡ c.len-given.result = length-map c.self.inside.hosts.keys string_bytes ∙ sym c.len-given.ensures.len in
    gives_next (g.P.Places.unused c.args.cache.now) (keys_in c.self.inside.hosts) c.self.inside.places c.args.self.now c.args.key.now c.place_in.result c.self.view_is c.place_in.ensures.place
    c.in_default.is c.len-given.result size (keys_in c.append.new.hosts) c.if-given-self.true c.in_ok-append.ensures.ok

pub returns-in_default-next_unused-clause-refuses :
    goal.returns-in_default-next_unused-clause-refuses
returns-in_default-next_unused-clause-refuses g c =
    let size : length (keys_in c.self.inside.hosts) ≡ c.len-given.result = length-map c.self.inside.hosts.keys string_bytes ∙ sym c.len-given.ensures.len in
    refuses_full (g.P.Places.unused c.args.cache.now) (keys_in c.self.inside.hosts) c.self.inside.places c.args.self.now c.args.key.now c.place_in.result c.self.view_is c.place_in.ensures.place
    c.in_default.is c.len-given.result size c.if-given-self.false c.self.invariant.few c.in_default-next_unused.ensures.none

pub replace-requires-clause-absent : goal.replace-requires-clause-absent
replace-requires-clause-absent g c = sym c.place_in.ensures.place ∙ c.in_default.is

pub returns-in_err-replace-clause-refuses : goal.returns-in_err-replace-clause-refuses
returns-in_err-replace-clause-refuses g c =
    let size : length (keys_in c.self.inside.hosts) ≡ c.len-given.result = length-map c.self.inside.hosts.keys string_bytes ∙ sym c.len-given.ensures.len in
    refused_memory c.from_residual-in_err-replace.result (g.P.Places.unused c.args.cache.now) c.args.self.now c.args.key.now c.from_residual-in_err-replace.ensures.1
    (refuses_anew (g.P.Places.unused c.args.cache.now) (keys_in c.self.inside.hosts) c.self.inside.places c.args.self.now c.args.key.now c.place_in.result c.self.view_is c.place_in.ensures.place
    c.in_default.is c.len-given.result size c.in-Some-next_unused.place c.in-Some-next_unused.ensures.some c.in-Some-next_unused.ensures.unused)

pub returns-clause-gives : goal.returns-clause-gives
returns-clause-gives g c =
    let size : length (keys_in c.self.inside.hosts) ≡ c.len-given.result = length-map c.self.inside.hosts.keys string_bytes ∙ sym c.len-given.ensures.len in
    gives_anew (g.P.Places.unused c.args.cache.now) (keys_in c.self.inside.hosts) c.self.inside.places c.args.self.now c.args.key.now c.place_in.result c.self.view_is c.place_in.ensures.place
    c.in_default.is c.len-given.result size (keys_in c.replace.new.hosts) c.in-Some-next_unused.place c.if-given-self.false c.self.invariant.few c.in-Some-next_unused.ensures.some c.in-Some-next_unused.ensures.unused c.in_ok-replace.ensures.ok
