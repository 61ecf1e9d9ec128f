mod Packets
mod Within
