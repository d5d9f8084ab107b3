-- Command lines, computed by the checker.
use Rattle.std.proofs.Common.{◌≡◌, true, false, [], ◌∷◌, codes, Ok, Err, refl}
use Rattle.zk_command.specs.declared.command.Settings.{Settings}
use Rattle.zk_command.specs.Command.{ListItems, RunScripts, Generate, Help, Version, understand}

-- the settings of a run without options
defaults : Settings
defaults = record { check = true; bare = false; budget = 1_000_000; buffer = 1_048_576 }

-- Commands ----------------------------------------------------------------------------------------------------------------

list_names_a_file : understand (codes "list" ∷ codes "a.pcap" ∷ []) ≡ Ok (ListItems (codes "a.pcap"))
list_names_a_file = refl

gen_has_two_numbers : understand (codes "gen" ∷ codes "4294967295" ∷ codes "0" ∷ []) ≡ Ok (Generate 4_294_967_295 0)
gen_has_two_numbers = refl

help_stands_alone : understand (codes "--help" ∷ []) ≡ Ok Help
help_stands_alone = refl

version_stands_alone : understand (codes "--version" ∷ []) ≡ Ok Version
version_stands_alone = refl

a_run_of_the_default_scripts : understand (codes "run" ∷ codes "-r" ∷ codes "a.pcap" ∷ []) ≡ Ok (RunScripts defaults (codes "a.pcap") [])
unfolding defaults
a_run_of_the_default_scripts = refl

scripts_stand_in_order : understand (codes "run" ∷ codes "-r" ∷ codes "a.pcap" ∷ codes "x" ∷ codes "y" ∷ []) ≡ Ok (RunScripts defaults (codes "a.pcap") (codes "x" ∷ codes "y" ∷ []))
unfolding defaults
scripts_stand_in_order = refl

checksums_are_left_unjudged : understand (codes "run" ∷ codes "-C" ∷ codes "-r" ∷ codes "a" ∷ []) ≡ Ok (RunScripts (record defaults { check = false }) (codes "a") [])
unfolding defaults
checksums_are_left_unjudged = refl

the_default_scripts_are_left_out : understand (codes "run" ∷ codes "-b" ∷ codes "-r" ∷ codes "a" ∷ []) ≡ Ok (RunScripts (record defaults { bare = true }) (codes "a") [])
unfolding defaults
the_default_scripts_are_left_out = refl

a_budget_is_told : understand (codes "run" ∷ codes "-r" ∷ codes "a" ∷ codes "--budget" ∷ codes "1000000000" ∷ []) ≡ Ok (RunScripts (record defaults { budget = 1_000_000_000 }) (codes "a") [])
unfolding defaults
a_budget_is_told = refl

a_buffer_is_told : understand (codes "run" ∷ codes "--buffer" ∷ codes "67108864" ∷ codes "-r" ∷ codes "a" ∷ []) ≡ Ok (RunScripts (record defaults { buffer = 67_108_864 }) (codes "a") [])
unfolding defaults
a_buffer_is_told = refl

-- The first word that isn't understood ------------------------------------------------------------------------------------

a_command_is_missing : understand [] ≡ Err 0
a_command_is_missing = refl

a_command_is_not_known : understand (codes "List" ∷ codes "a" ∷ []) ≡ Err 0
a_command_is_not_known = refl

one_file_is_listed : understand (codes "list" ∷ codes "a" ∷ codes "b" ∷ []) ≡ Err 2
one_file_is_listed = refl

an_option_stands_once : understand (codes "run" ∷ codes "-b" ∷ codes "-r" ∷ codes "a" ∷ codes "-b" ∷ []) ≡ Err 4
an_option_stands_once = refl

options_stand_before_scripts : understand (codes "run" ∷ codes "-r" ∷ codes "a" ∷ codes "x" ∷ codes "-b" ∷ []) ≡ Err 4
options_stand_before_scripts = refl

the_capture_is_named_before_scripts : understand (codes "run" ∷ codes "x" ∷ codes "-r" ∷ codes "a" ∷ []) ≡ Err 1
the_capture_is_named_before_scripts = refl

the_capture_is_missing : understand (codes "run" ∷ codes "-b" ∷ []) ≡ Err 2
the_capture_is_missing = refl

a_name_is_no_option : understand (codes "run" ∷ codes "-r" ∷ codes "-b" ∷ []) ≡ Err 2
a_name_is_no_option = refl

a_budget_is_from_1 : understand (codes "run" ∷ codes "--budget" ∷ codes "0" ∷ []) ≡ Err 2
a_budget_is_from_1 = refl

a_buffer_has_a_limit : understand (codes "run" ∷ codes "--buffer" ∷ codes "67108865" ∷ []) ≡ Err 2
a_buffer_has_a_limit = refl

a_number_begins_with_no_0 : understand (codes "gen" ∷ codes "01" ∷ []) ≡ Err 1
a_number_begins_with_no_0 = refl

a_count_has_a_limit : understand (codes "gen" ∷ codes "1" ∷ codes "100001" ∷ []) ≡ Err 2
a_count_has_a_limit = refl
