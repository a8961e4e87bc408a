use Rattle.std.proofs.Common.{refl}
use Rattle.std.specs.Fmt.{digits}
use Rattle.std.specs.Str.{is_utf8, chars}
use lib.Utf8.{encode}
use Rattle.url.proofs.OnLiterals.{url_on_literals}
use Rattle.streams.specs.Lines.{lines}
use Rattle.streams.specs.Words.{words, number}
use Rattle.script_text.specs.Grammar.{reading, command_of, ending_of, limits_form, site_form, with_number, with_word, get_form, claim_form, back_form, drop_form, leave_form, limit_form, prune_form, upkeep_form, look_form}
use Rattle.script_text.specs.Site.{site_named}
use Rattle.script_text.specs.Printing.{lines_since}
use Rattle.script_engine.specs.Meaning.{step, get_at, claim_at, back_at, drop_at, leave_at, limit_at, look_at, prune_all, upkeep_all}
use Rattle.script_engine.specs.Transcript.{transcript, line_step}
use Rattle.script_engine.proofs.worked.worked_scripts.Goals as goal

pub returns-clause-reuse_then_drop : goal.returns-clause-reuse_then_drop
unfolding url_on_literals site_named with_number with_word digits is_utf8 chars encode lines words number reading command_of ending_of limits_form site_form get_form claim_form back_form drop_form leave_form limit_form prune_form upkeep_form look_form lines_since step get_at claim_at back_at drop_at leave_at limit_at look_at prune_all upkeep_all transcript line_step
returns-clause-reuse_then_drop c = (refl, refl)

pub returns-clause-busy_and_no_such_site : goal.returns-clause-busy_and_no_such_site
unfolding url_on_literals site_named with_number with_word digits is_utf8 chars encode lines words number reading command_of ending_of limits_form site_form get_form claim_form back_form drop_form leave_form limit_form prune_form upkeep_form look_form lines_since step get_at claim_at back_at drop_at leave_at limit_at look_at prune_all upkeep_all transcript line_step
returns-clause-busy_and_no_such_site c = (refl, refl)

pub returns-clause-not_persistent_at_the_limit : goal.returns-clause-not_persistent_at_the_limit
unfolding url_on_literals site_named with_number with_word digits is_utf8 chars encode lines words number reading command_of ending_of limits_form site_form get_form claim_form back_form drop_form leave_form limit_form prune_form upkeep_form look_form lines_since step get_at claim_at back_at drop_at leave_at limit_at look_at prune_all upkeep_all transcript line_step
returns-clause-not_persistent_at_the_limit c = (refl, refl)

pub returns-clause-get_with_a_missing_word : goal.returns-clause-get_with_a_missing_word
unfolding url_on_literals site_named with_number with_word digits is_utf8 chars encode lines words number reading command_of ending_of limits_form site_form get_form claim_form back_form drop_form leave_form limit_form prune_form upkeep_form look_form lines_since step get_at claim_at back_at drop_at leave_at limit_at look_at prune_all upkeep_all transcript line_step
returns-clause-get_with_a_missing_word c = (refl, refl)

pub returns-clause-no_room_to_keep : goal.returns-clause-no_room_to_keep
unfolding url_on_literals site_named with_number with_word digits is_utf8 chars encode lines words number reading command_of ending_of limits_form site_form get_form claim_form back_form drop_form leave_form limit_form prune_form upkeep_form look_form lines_since step get_at claim_at back_at drop_at leave_at limit_at look_at prune_all upkeep_all transcript line_step
returns-clause-no_room_to_keep c = (refl, refl)

pub returns-clause-idle_as_long_as_the_age : goal.returns-clause-idle_as_long_as_the_age
unfolding url_on_literals site_named with_number with_word digits is_utf8 chars encode lines words number reading command_of ending_of limits_form site_form get_form claim_form back_form drop_form leave_form limit_form prune_form upkeep_form look_form lines_since step get_at claim_at back_at drop_at leave_at limit_at look_at prune_all upkeep_all transcript line_step
returns-clause-idle_as_long_as_the_age c = (refl, refl)

pub returns-clause-idle_longer_than_the_age : goal.returns-clause-idle_longer_than_the_age
unfolding url_on_literals site_named with_number with_word digits is_utf8 chars encode lines words number reading command_of ending_of limits_form site_form get_form claim_form back_form drop_form leave_form limit_form prune_form upkeep_form look_form lines_since step get_at claim_at back_at drop_at leave_at limit_at look_at prune_all upkeep_all transcript line_step
returns-clause-idle_longer_than_the_age c = (refl, refl)

pub returns-clause-as_old_as_the_lifetime : goal.returns-clause-as_old_as_the_lifetime
unfolding url_on_literals site_named with_number with_word digits is_utf8 chars encode lines words number reading command_of ending_of limits_form site_form get_form claim_form back_form drop_form leave_form limit_form prune_form upkeep_form look_form lines_since step get_at claim_at back_at drop_at leave_at limit_at look_at prune_all upkeep_all transcript line_step
returns-clause-as_old_as_the_lifetime c = (refl, refl)

pub returns-clause-older_than_the_lifetime : goal.returns-clause-older_than_the_lifetime
unfolding url_on_literals site_named with_number with_word digits is_utf8 chars encode lines words number reading command_of ending_of limits_form site_form get_form claim_form back_form drop_form leave_form limit_form prune_form upkeep_form look_form lines_since step get_at claim_at back_at drop_at leave_at limit_at look_at prune_all upkeep_all transcript line_step
returns-clause-older_than_the_lifetime c = (refl, refl)

pub returns-clause-another_lane_at_the_host_limit : goal.returns-clause-another_lane_at_the_host_limit
unfolding url_on_literals site_named with_number with_word digits is_utf8 chars encode lines words number reading command_of ending_of limits_form site_form get_form claim_form back_form drop_form leave_form limit_form prune_form upkeep_form look_form lines_since step get_at claim_at back_at drop_at leave_at limit_at look_at prune_all upkeep_all transcript line_step
returns-clause-another_lane_at_the_host_limit c = (refl, refl)

pub returns-clause-forbidden_and_cut : goal.returns-clause-forbidden_and_cut
unfolding url_on_literals site_named with_number with_word digits is_utf8 chars encode lines words number reading command_of ending_of limits_form site_form get_form claim_form back_form drop_form leave_form limit_form prune_form upkeep_form look_form lines_since step get_at claim_at back_at drop_at leave_at limit_at look_at prune_all upkeep_all transcript line_step
returns-clause-forbidden_and_cut c = (refl, refl)

pub returns-clause-moment_goes_back : goal.returns-clause-moment_goes_back
unfolding url_on_literals site_named with_number with_word digits is_utf8 chars encode lines words number reading command_of ending_of limits_form site_form get_form claim_form back_form drop_form leave_form limit_form prune_form upkeep_form look_form lines_since step get_at claim_at back_at drop_at leave_at limit_at look_at prune_all upkeep_all transcript line_step
returns-clause-moment_goes_back c = (refl, refl)

pub returns-clause-options_in_another_order : goal.returns-clause-options_in_another_order
unfolding url_on_literals site_named with_number with_word digits is_utf8 chars encode lines words number reading command_of ending_of limits_form site_form get_form claim_form back_form drop_form leave_form limit_form prune_form upkeep_form look_form lines_since step get_at claim_at back_at drop_at leave_at limit_at look_at prune_all upkeep_all transcript line_step
returns-clause-options_in_another_order c = (refl, refl)

pub returns-clause-one_site_in_two_spellings : goal.returns-clause-one_site_in_two_spellings
unfolding url_on_literals site_named with_number with_word digits is_utf8 chars encode lines words number reading command_of ending_of limits_form site_form get_form claim_form back_form drop_form leave_form limit_form prune_form upkeep_form look_form lines_since step get_at claim_at back_at drop_at leave_at limit_at look_at prune_all upkeep_all transcript line_step
returns-clause-one_site_in_two_spellings c = (refl, refl)

pub returns-clause-wait_then_claim : goal.returns-clause-wait_then_claim
unfolding url_on_literals site_named with_number with_word digits is_utf8 chars encode lines words number reading command_of ending_of limits_form site_form get_form claim_form back_form drop_form leave_form limit_form prune_form upkeep_form look_form lines_since step get_at claim_at back_at drop_at leave_at limit_at look_at prune_all upkeep_all transcript line_step
returns-clause-wait_then_claim c = (refl, refl)

pub returns-clause-withdraw_a_grant : goal.returns-clause-withdraw_a_grant
unfolding url_on_literals site_named with_number with_word digits is_utf8 chars encode lines words number reading command_of ending_of limits_form site_form get_form claim_form back_form drop_form leave_form limit_form prune_form upkeep_form look_form lines_since step get_at claim_at back_at drop_at leave_at limit_at look_at prune_all upkeep_all transcript line_step
returns-clause-withdraw_a_grant c = (refl, refl)

pub returns-clause-moments_clamped_per_host : goal.returns-clause-moments_clamped_per_host
unfolding url_on_literals site_named with_number with_word digits is_utf8 chars encode lines words number reading command_of ending_of limits_form site_form get_form claim_form back_form drop_form leave_form limit_form prune_form upkeep_form look_form lines_since step get_at claim_at back_at drop_at leave_at limit_at look_at prune_all upkeep_all transcript line_step
returns-clause-moments_clamped_per_host c = (refl, refl)

pub returns-clause-tickets_are_no_leases : goal.returns-clause-tickets_are_no_leases
unfolding url_on_literals site_named with_number with_word digits is_utf8 chars encode lines words number reading command_of ending_of limits_form site_form get_form claim_form back_form drop_form leave_form limit_form prune_form upkeep_form look_form lines_since step get_at claim_at back_at drop_at leave_at limit_at look_at prune_all upkeep_all transcript line_step
returns-clause-tickets_are_no_leases c = (refl, refl)

pub returns-clause-served_in_order : goal.returns-clause-served_in_order
unfolding url_on_literals site_named with_number with_word digits is_utf8 chars encode lines words number reading command_of ending_of limits_form site_form get_form claim_form back_form drop_form leave_form limit_form prune_form upkeep_form look_form lines_since step get_at claim_at back_at drop_at leave_at limit_at look_at prune_all upkeep_all transcript line_step
returns-clause-served_in_order c = (refl, refl)

pub returns-clause-an_option_twice : goal.returns-clause-an_option_twice
unfolding url_on_literals site_named with_number with_word digits is_utf8 chars encode lines words number reading command_of ending_of limits_form site_form get_form claim_form back_form drop_form leave_form limit_form prune_form upkeep_form look_form lines_since step get_at claim_at back_at drop_at leave_at limit_at look_at prune_all upkeep_all transcript line_step
returns-clause-an_option_twice c = (refl, refl)

pub returns-clause-unknown_command : goal.returns-clause-unknown_command
unfolding url_on_literals site_named with_number with_word digits is_utf8 chars encode lines words number reading command_of ending_of limits_form site_form get_form claim_form back_form drop_form leave_form limit_form prune_form upkeep_form look_form lines_since step get_at claim_at back_at drop_at leave_at limit_at look_at prune_all upkeep_all transcript line_step
returns-clause-unknown_command c = (refl, refl)

pub returns-clause-second_limits : goal.returns-clause-second_limits
unfolding url_on_literals site_named with_number with_word digits is_utf8 chars encode lines words number reading command_of ending_of limits_form site_form get_form claim_form back_form drop_form leave_form limit_form prune_form upkeep_form look_form lines_since step get_at claim_at back_at drop_at leave_at limit_at look_at prune_all upkeep_all transcript line_step
returns-clause-second_limits c = (refl, refl)

pub returns-clause-bad_site : goal.returns-clause-bad_site
unfolding url_on_literals site_named with_number with_word digits is_utf8 chars encode lines words number reading command_of ending_of limits_form site_form get_form claim_form back_form drop_form leave_form limit_form prune_form upkeep_form look_form lines_since step get_at claim_at back_at drop_at leave_at limit_at look_at prune_all upkeep_all transcript line_step
returns-clause-bad_site c = (refl, refl)

pub returns-clause-one_site_too_many : goal.returns-clause-one_site_too_many
unfolding url_on_literals site_named with_number with_word digits is_utf8 chars encode lines words number reading command_of ending_of limits_form site_form get_form claim_form back_form drop_form leave_form limit_form prune_form upkeep_form look_form lines_since step get_at claim_at back_at drop_at leave_at limit_at look_at prune_all upkeep_all line_step
returns-clause-one_site_too_many c = refl

pub returns-clause-a_site_that_is_there : goal.returns-clause-a_site_that_is_there
unfolding url_on_literals site_named with_number with_word digits is_utf8 chars encode lines words number reading command_of ending_of limits_form site_form get_form claim_form back_form drop_form leave_form limit_form prune_form upkeep_form look_form lines_since step get_at claim_at back_at drop_at leave_at limit_at look_at prune_all upkeep_all line_step
returns-clause-a_site_that_is_there c = refl

pub returns-clause-longest_line : goal.returns-clause-longest_line
unfolding url_on_literals site_named with_number with_word digits is_utf8 chars encode lines words number reading command_of ending_of limits_form site_form get_form claim_form back_form drop_form leave_form limit_form prune_form upkeep_form look_form lines_since step get_at claim_at back_at drop_at leave_at limit_at look_at prune_all upkeep_all transcript line_step
returns-clause-longest_line c = (refl, refl)

pub returns-clause-line_too_long_by_one : goal.returns-clause-line_too_long_by_one
unfolding url_on_literals site_named with_number with_word digits is_utf8 chars encode lines words number reading command_of ending_of limits_form site_form get_form claim_form back_form drop_form leave_form limit_form prune_form upkeep_form look_form lines_since step get_at claim_at back_at drop_at leave_at limit_at look_at prune_all upkeep_all transcript line_step
returns-clause-line_too_long_by_one c = (refl, refl)

pub returns-clause-events : goal.returns-clause-events
unfolding url_on_literals site_named with_number with_word digits is_utf8 chars encode lines words number reading command_of ending_of limits_form site_form get_form claim_form back_form drop_form leave_form limit_form prune_form upkeep_form look_form lines_since step get_at claim_at back_at drop_at leave_at limit_at look_at prune_all upkeep_all line_step
returns-clause-events c = refl

pub returns-clause-leases : goal.returns-clause-leases
unfolding url_on_literals site_named with_number with_word digits is_utf8 chars encode lines words number reading command_of ending_of limits_form site_form get_form claim_form back_form drop_form leave_form limit_form prune_form upkeep_form look_form lines_since step get_at claim_at back_at drop_at leave_at limit_at look_at prune_all upkeep_all line_step
returns-clause-leases c = refl
