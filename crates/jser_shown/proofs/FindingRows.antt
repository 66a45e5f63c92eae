-- Worked rows: what is found along the tokens of some lists, by computation.
use Rattle.std.proofs.Common.{◌≡◌, refl}
use Rattle.jser_grammar.specs.CheckedNames.{checked_names}
use Rattle.jser_grammar.specs.Trees.{ContentTrees}
use Rattle.jser_grammar.proofs.Rows.{linked_pair, array_list, reset_epochs, int_array, external_over_serial, enum_constant_row, proxy_row}
use Rattle.jser_prim.specs.ModifiedUtf8.{unit_spelling}
use Rattle.jser_reading.specs.Tokens.{tokens_of}
use Rattle.jser_shown.specs.Nodes.{nodes_of}
use Rattle.jser_shown.specs.Owners.{owners_of}
use Rattle.jser_shown.specs.Finding.{Finding, begin_finding, found, finished, nodes_found}

abbrev all_found : ContentTrees → Finding
all_found list = finished (found begin_finding (tokens_of list))

nodes_1 : nodes_found (all_found linked_pair) ≡ nodes_of linked_pair
unfolding unit_spelling
nodes_1 = refl

owners_1 : (all_found linked_pair).owners ≡ owners_of linked_pair
owners_1 = refl

names_1 : (all_found linked_pair).names ≡ checked_names linked_pair
names_1 = refl

nodes_2 : nodes_found (all_found proxy_row) ≡ nodes_of proxy_row
unfolding unit_spelling
nodes_2 = refl

owners_2 : (all_found proxy_row).owners ≡ owners_of proxy_row
owners_2 = refl

names_2 : (all_found proxy_row).names ≡ checked_names proxy_row
names_2 = refl

nodes_3 : nodes_found (all_found enum_constant_row) ≡ nodes_of enum_constant_row
unfolding unit_spelling
nodes_3 = refl

owners_3 : (all_found enum_constant_row).owners ≡ owners_of enum_constant_row
owners_3 = refl

nodes_4 : nodes_found (all_found reset_epochs) ≡ nodes_of reset_epochs
nodes_4 = refl

nodes_5 : nodes_found (all_found array_list) ≡ nodes_of array_list
unfolding unit_spelling
nodes_5 = refl

owners_5 : (all_found int_array).owners ≡ owners_of int_array
owners_5 = refl

nodes_6 : nodes_found (all_found external_over_serial) ≡ nodes_of external_over_serial
nodes_6 = refl

names_6 : (all_found external_over_serial).names ≡ checked_names external_over_serial
names_6 = refl
